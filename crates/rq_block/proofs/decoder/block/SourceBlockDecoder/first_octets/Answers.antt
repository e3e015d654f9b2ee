use Rattle.std.proofs.Common.{◌≡◌, ℕ, ◌*◌, ◌<◌, length, get_or, set, replicate, ap, ◌∙◌, arith}
use Rattle.rq_algebra.specs.Systems.{at}
use Rattle.rq_standard.specs.Differences.{first_octets_below, plain_sum}
use Rattle.rq_standard.proofs.FirstOctets.{all_octets, length-octets_below, no_octets, next_index, octet_written}
use Rattle.rq_block.proofs.OctetSymbols.{octet_column, octet_sum}
use Rattle.rq_block.proofs.decoder.block.SourceBlockDecoder.first_octets.Goals as goal

pub loop-e-init : goal.loop-e-init
loop-e-init c =
    let s = c.args.self.now in
    c.in_ok-block.ensures.items_if_clones_equal (λ y same. same) ∙ ap (λ n. replicate {A = ℕ} n 0) c.length.ensures ∙ no_octets s.config s.source_symbols (plain_sum s.row.numbers (at c.args.column.now))

pub encoding_symbol-requires : goal.encoding_symbol-requires
encoding_symbol-requires c = octet_column c.args.self.now.row.numbers c.args.column.now c.in_ok-octets.octets c.args.self.now.row.checked c.requires (λ k l. omega (arith, c.type_inv.column k)) c.in_ok-octets.ensures

pub index-requires : goal.index-requires
index-requires c =
    let octet = octet_sum c.args.self.now.row.numbers c.args.column.now c.in_ok-octets.octets c.args.self.now.row.checked c.requires (λ k l. omega (arith, c.type_inv.column k)) c.in_ok-octets.ensures c.loop-e.e in
    omega (arith, ap length (c.in_ok-octet.ensures.sum ∙ octet), c.in_ok-octet.octet.ok.0)

pub overflow_mul-e : goal.overflow_mul-e
overflow_mul-e c =
    let s = c.args.self.now in
    let below : c.loop-e.e < s.source_symbols = omega (arith, c.loop-e-test.true, c.loop-e.auto.e-end) in
    let octet = plain_sum s.row.numbers (at c.args.column.now) in
    let place = next_index s.config s.source_symbols octet s.positive s.aligned c.loop-e.e below in
    record { fits = omega (arith, place, ap (λ n. c.loop-e.e * n) c.sub_block_size-width.ensures, c.loop-e.block.ok.0, c.loop-e.block.small, ap length c.loop-e.invariant, length-octets_below s.config s.source_symbols octet c.loop-e.e) }

pub index_mut-requires : goal.index_mut-requires
index_mut-requires c =
    let s = c.args.self.now in
    let octet = plain_sum s.row.numbers (at c.args.column.now) in
    let below : c.loop-e.e < s.source_symbols = omega (arith, c.loop-e-test.true, c.loop-e.auto.e-end) in
    let place = next_index s.config s.source_symbols octet s.positive s.aligned c.loop-e.e below in
    omega (arith, place, ap (λ n. c.loop-e.e * n) c.sub_block_size-width.ensures, c.loop-e.block.ok.0, ap length c.loop-e.invariant, length-octets_below s.config s.source_symbols octet c.loop-e.e)

pub loop-e-preserved : goal.loop-e-preserved
loop-e-preserved c =
    let s = c.args.self.now in
    let octet = plain_sum s.row.numbers (at c.args.column.now) in
    let e = c.loop-e.e in
    let below : e < s.source_symbols = omega (arith, c.loop-e-test.true, c.loop-e.auto.e-end) in
    let sum = c.in_ok-octet.ensures.sum ∙ octet_sum s.row.numbers c.args.column.now c.in_ok-octets.octets s.row.checked c.requires (λ k l. omega (arith, c.type_inv.column k)) c.in_ok-octets.ensures e in
    let read : c.index.result.now ≡ octet e = c.index.ensures ∙ ap (λ xs. get_or xs 0 c.index.result.now) sum in
    ap (λ xs. set xs (e * c.sub_block_size-width.result) c.index.result.now) c.loop-e.invariant ∙ ap (λ n. set (first_octets_below s.config s.source_symbols octet e) (e * n) c.index.result.now) c.sub_block_size-width.ensures
    ∙ octet_written s.config s.source_symbols octet s.positive s.aligned e below c.index.result.now read

pub returns : goal.returns
returns c =
    let s = c.args.self.now in
    let octet = plain_sum s.row.numbers (at c.args.column.now) in
    let all : c.loop-e.e ≡ s.source_symbols = omega (arith, c.loop-e-test.false, c.loop-e.auto.e-end) in
    c.loop-e.invariant ∙ ap (first_octets_below s.config s.source_symbols octet) all ∙ all_octets s.config s.source_symbols octet
