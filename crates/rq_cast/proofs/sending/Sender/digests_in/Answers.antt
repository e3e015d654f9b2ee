use Rattle.std.proofs.Common.{◌≡◌, ℕ, ◌+◌, ◌<◌, ◌≤◌, Vec, Global, List, [], length, map, take, drop, get_or, sym, ap, ◌∙◌, arith, rules}
use Rattle.std.specs.Prelude.{vec_items}
use Rattle.std.proofs.lemmas.List.{length-map, get_or-map, get_or-take}
use Rattle.std.proofs.lemmas.List.Elements.{All-weaker}
use Rattle.sha2.specs.Sha512.{sha512}
use Rattle.rq_standard.specs.Configuration.{Configuration}
use Rattle.rq_cells.specs.Cells.{digest_of}
use Rattle.rq_cast.specs.Sent.{sending_of}
use Rattle.rq_cast.specs.Writing.{IsRoom}
use Rattle.rq_cast.proofs.RowCells.{All-made, symbol_there}
use Rattle.rq_cast.proofs.sending.Sender.digests_in.Goals as goal

pub hashes_in-requires-clause-long : goal.hashes_in-requires-clause-long
hashes_in-requires-clause-long c =
    let s = sending_of c.args.self.now in
    let row = c.args.row.now in
    let same : s.encoded.configuration.symbol_size ≡ s.head.configuration.symbol_size = ap (λ (k : Configuration). k.symbol_size) (sym c.args.self.now.same) in
    let size : c.from.result ≡ s.encoded.configuration.symbol_size =
    c.from.ensures ∙ c.symbol_size-size.ensures ∙ ap (λ (k : Configuration). k.symbol_size) c.get_config.ensures in
    All-weaker (λ (v : Vec ℕ Global). IsRoom s.key s.head v.items) (λ v. 56 + c.from.result ≤ length v.items)
    (λ v room. omega (arith, room.long, same, size)) row (All-made (IsRoom s.key s.head) (vec_items {X = ℕ} {Z = Global}) row c.requires.rooms)

pub returns-in-Some : goal.returns-in-Some
returns-in-Some c j below =
    let row = c.args.row.now in
    let few : j < length row = omega (arith, below, length-map row (vec_items {X = ℕ} {Z = Global})) in
    c.in-Some.ensures j (get_or (map (vec_items {X = ℕ} {Z = Global}) row) j []) few (c.requires.packets j below)

pub returns-in-None : goal.returns-in-None
returns-in-None c j below =
    let s = sending_of c.args.self.now in
    let row = c.args.row.now in
    let cells = map (vec_items {X = ℕ} {Z = Global}) row in
    let hashes = c.hashes_in.result in
    let size : c.from.result ≡ s.encoded.configuration.symbol_size =
    c.from.ensures ∙ c.symbol_size-size.ensures ∙ ap (λ (k : Configuration). k.symbol_size) c.get_config.ensures in
    let few : j < length row = omega (arith, below, length-map row (vec_items {X = ℕ} {Z = Global})) in
    let long : length hashes ≡ 8 = search rules in
    let made : ℕ → List ℕ → List ℕ = λ n cell. sha512 (take n (drop 56 cell)) in
    ap (λ ds. get_or ds j []) c.digests_by.ensures
    ∙ get_or-map (take 32) hashes j [] [] (omega (arith, few, long, c.requires.few))
    ∙ ap (take 32) (sym (get_or-take (length row) hashes j [] few) ∙ ap (λ hs. get_or hs j []) c.hashes_in.ensures
    ∙ get_or-map (made c.from.result) cells j [] [] below ∙ ap (λ n. made n (get_or cells j [])) size)
    ∙ ap digest_of (sym (symbol_there s.encoded.configuration.symbol_size (get_or cells j [])))
