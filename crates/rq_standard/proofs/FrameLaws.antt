-- Frames, one after another: of packets, and in bytes.
use Rattle.std.proofs.Common.{◌≡◌, ℕ, zero, suc, ◌+◌, ◌-◌, ◌*◌, ◌/◌, ◌%◌, ◌<◌, ◌≤◌, min, List, [], ◌∷◌, ◌++◌, length, take, drop, map, arith, refl, sym, ap, ◌∙◌, inl, inr, append-nil, append_assoc, length-append}
use Rattle.std.specs.List.{range_with_len}
use Rattle.std.specs.Int.{div_ceil}
use Rattle.std.proofs.lemmas.Bool.{cases_lt}
use Rattle.std.proofs.Math.Nat.{add-div_right, add-mod_right, div-eq_of_lt, mod-eq_of_lt, zero-div, zero-mod, zero-mul}
use Rattle.std.proofs.lemmas.List.{take_at, drop_at, take_all, drop_all, drop-drop}
use Rattle.rq_standard.specs.Packet.{Packet, packet_bytes}
use Rattle.rq_standard.specs.Streams.{frames_in, frames_of}

-- a packet behind others
pub frames_of-push : (packets : List Packet) (p : Packet) → frames_of (packets ++ p ∷ []) ≡ frames_of packets ++ packet_bytes p
frames_of-push [] p = append-nil (packet_bytes p)
frames_of-push (q ∷ packets) p = ap (λ xs. packet_bytes q ++ xs) (frames_of-push packets p) ∙ sym (append_assoc (packet_bytes q) (frames_of packets) (packet_bytes p))

-- the first part and what is behind it
cut_at : (size : ℕ) (frame rest : List ℕ) → length frame ≡ min size (length (frame ++ rest)) → (take size (frame ++ rest) ≡ frame) × (drop size (frame ++ rest) ≡ rest)
cut_at size frame [] long =
    let short : length frame ≤ size = omega (arith, long) in
    (ap (take size) (append-nil frame) ∙ take_all size frame short, ap (drop size) (append-nil frame) ∙ drop_all size frame short)
cut_at size frame (y ∷ rest) long =
    let is : length frame ≡ size = omega (arith, long, length-append frame (y ∷ rest)) in
    (take_at frame (y ∷ rest) size is, drop_at frame (y ∷ rest) size is)

-- one part less
fewer : (n size : ℕ) → 0 < size → 0 < n → div_ceil n size ≡ suc (div_ceil (n - size) size)
fewer n size positive some = elim (cases_lt n size) [
  | inl less ↦
      let none : n - size ≡ 0 = omega arith in
      let left : (n - size) / size ≡ 0 = ap (λ m. m / size) none ∙ zero-div size in
      let over : (n - size) % size ≡ 0 = ap (λ m. m % size) none ∙ zero-mod size in
      ap (λ q. q + min 1 (n % size)) (div-eq_of_lt less) ∙ ap (λ r. 0 + min 1 r) (mod-eq_of_lt less)
      ∙ (let one : 0 + min 1 n ≡ suc (0 + min 1 0) = omega arith in one)
      ∙ sym (ap (λ q. suc (q + min 1 ((n - size) % size))) left ∙ ap (λ r. suc (0 + min 1 r)) over)
  | inr more ↦
      let whole : n ≡ (n - size) + size = omega arith in
      let parts : n / size ≡ (n - size) / size + 1 = ap (λ m. m / size) whole ∙ add-div_right (n - size) positive in
      let over : n % size ≡ (n - size) % size = ap (λ m. m % size) whole ∙ add-mod_right (n - size) size in
      ap (λ q. q + min 1 (n % size)) parts ∙ ap (λ r. (n - size) / size + 1 + min 1 r) over ∙ omega arith
]

shift : (f : ℕ → List ℕ) (a n : ℕ) → map f (range_with_len (a + 1) n) ≡ map (λ i. f (i + 1)) (range_with_len a n)
shift f a zero = refl
shift f a (suc n) = ap (λ xs. f (a + 1) ∷ xs) (shift f (a + 1) n)

same_map : (f g : ℕ → List ℕ) (xs : List ℕ) → ((i : ℕ) → f i ≡ g i) → map f xs ≡ map g xs
same_map f g xs e = λ i. map (λ x. e x i) xs

drop_more : (size i : ℕ) (bytes : List ℕ) → drop ((i + 1) * size) bytes ≡ drop (i * size) (drop size bytes)
drop_more size i bytes =
    let longer : (i + 1) * size ≡ size + i * size = omega arith in
    ap (λ m. drop m bytes) longer ∙ sym (drop-drop (i * size) size bytes)

abbrev part : ℕ → List ℕ → ℕ → List ℕ
part size bytes i = take size (drop (i * size) bytes)

-- the first frame and those behind it
pub frames_in-next : (size : ℕ) (bytes frame rest : List ℕ) → 0 < size → bytes ≡ frame ++ rest → length frame ≡ min size (length bytes) → 0 < length bytes → frames_in size bytes ≡ frame ∷ frames_in size rest
unfolding frames_in
frames_in-next size bytes frame rest positive whole long some =
    let cut = cut_at size frame rest (long ∙ ap (λ xs. min size (length xs)) whole) in
    let first : part size bytes 0 ≡ frame = ap (λ m. take size (drop m bytes)) (zero-mul size) ∙ ap (take size) whole ∙ cut.0 in
    let next : (i : ℕ) → part size bytes (i + 1) ≡ part size rest i = λ i. ap (take size) (drop_more size i bytes ∙ ap (drop (i * size)) (ap (drop size) whole ∙ cut.1)) in
    let left : length bytes - size ≡ length rest = omega (arith, long, ap length whole, length-append frame rest) in
    let count : div_ceil (length bytes) size ≡ suc (div_ceil (length rest) size) = fewer (length bytes) size positive some ∙ ap (λ m. suc (div_ceil m size)) left in
    let n = div_ceil (length rest) size in
    ap (λ m. map (part size bytes) (range_with_len 0 m)) count
    ∙ ap (λ x. x ∷ map (part size bytes) (range_with_len (0 + 1) n)) first
    ∙ ap (λ xs. frame ∷ xs) (shift (part size bytes) 0 n ∙ same_map (λ i. part size bytes (i + 1)) (part size rest) (range_with_len 0 n) next)

-- no frame is in no bytes
pub frames_in-none : (size : ℕ) (bytes : List ℕ) → length bytes ≡ 0 → frames_in size bytes ≡ []
unfolding frames_in
frames_in-none size bytes none =
    let count : div_ceil (length bytes) size ≡ 0 = ap (λ m. div_ceil m size) none ∙ ap (λ m. m + min 1 (0 % size)) (zero-div size) ∙ ap (λ m. 0 + min 1 m) (zero-mod size) ∙ omega arith in
    ap (λ m. map (part size bytes) (range_with_len 0 m)) count
