-- The packets of a block, appended to bytes one after another.
use Rattle.std.proofs.Common.{◌≡◌, ℕ, ◌+◌, ◌-◌, ◌^◌, ◌<◌, List, [], ◌∷◌, ◌++◌, length, take, drop, replicate, refl, sym, ap, ◌∙◌, subst, arith, append-nil, append_assoc}
use Rattle.std.proofs.Math.Seq.{take-append_seam, drop-append_seam}
use Rattle.std.proofs.lemmas.List.{take_all}
use Rattle.rq_standard.proofs.FrameLaws.{frames_of-push}
use Rattle.rq_standard.specs.Packet.{Packet, id_bytes, packet_bytes}
use Rattle.rq_standard.specs.Streams.{frames_of}
use Rattle.rq_block.specs.AppendedBlock.{AppendsBlock, AppendsSymbol, KeepsFront}
use Rattle.rq_block.specs.SourceBlockEncoder.{BlockEncoded, AreBlockPackets}
use Rattle.rq_block.proofs.Encodes.{block_packets-more}

pub appends_no_packets : (b : BlockEncoded) (bytes : List ℕ) → AppendsBlock b 0 bytes bytes
appends_no_packets b bytes = record { packets = []; are = record { ids = refl; each = tt }; grown = sym (append-nil bytes) }

from_zero : (n : ℕ) → n - 0 ≡ n
from_zero n = omega arith

-- one packet more: its id, and then its symbol
pub appends_packet : (b : BlockEncoded) (esi : ℕ) (old cur mid new id : List ℕ) → esi < 2 ^ 24 → id ≡ id_bytes (record { block = b.number; esi = esi }) → AppendsBlock b esi old cur → mid ≡ cur ++ id → AppendsSymbol b esi mid new
    → AppendsBlock b (esi + 1) old new
appends_packet b esi old cur mid new id small spelled so named symbol =
    let p : Packet = record { id = record { block = b.number; esi = esi }; payload = symbol.payload } in
    record {
      packets = so.packets ++ p ∷ [];
      are = subst (λ n. AreBlockPackets b 0 n (so.packets ++ p ∷ [])) (from_zero (esi + 1)) (block_packets-more b 0 esi so.packets (so.packets ++ p ∷ []) p (omega arith)
          (subst (λ n. AreBlockPackets b 0 n so.packets) (sym (from_zero esi)) so.are) refl (record { number = refl; esi = small; symbol = symbol.symbol }) refl);
      grown = symbol.grown ∙ ap (λ xs. xs ++ symbol.payload) (named ∙ ap (λ xs. xs ++ id) so.grown ∙ ap (λ xs. (old ++ frames_of so.packets) ++ xs) spelled)
          ∙ append_assoc (old ++ frames_of so.packets) (id_bytes p.id) symbol.payload ∙ append_assoc old (frames_of so.packets) (packet_bytes p) ∙ ap (λ xs. old ++ xs) (sym (frames_of-push so.packets p));
    }

-- ---- bytes with others behind them

pub extends_more : (a b c : List ℕ) → KeepsFront a b → KeepsFront b c → KeepsFront a c
extends_more a b c one two = record { more = one.more ++ two.more; grown = two.grown ∙ ap (λ xs. xs ++ two.more) one.grown ∙ append_assoc a one.more two.more }

-- bytes that grow by zeros stay, with the zeros behind them
module _ (xs new : List ℕ) (len end size : ℕ) (long : len ≡ length xs) (room : end ≡ len + size) (is : new ≡ take end xs ++ replicate (end - len) 0) where
  grown_by_zeros : new ≡ xs ++ replicate size 0
  grown_by_zeros =
      let more : end - len ≡ size = omega arith in
      is ∙ ap (λ ys. ys ++ replicate (end - len) 0) (take_all end xs (omega arith)) ∙ ap (λ n. xs ++ replicate n 0) more

  pub before_zeros : take len new ≡ xs
  before_zeros = ap (take len) grown_by_zeros ∙ ap (λ n. take n (xs ++ replicate size 0)) long ∙ take-append_seam xs (replicate size 0)

  pub zeros_behind : drop len new ≡ replicate size 0
  zeros_behind = ap (drop len) grown_by_zeros ∙ ap (λ n. drop n (xs ++ replicate size 0)) long ∙ drop-append_seam xs (replicate size 0)
