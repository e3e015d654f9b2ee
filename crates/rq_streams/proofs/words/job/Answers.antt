use Rattle.std.proofs.Common.{◌≡◌, ◌∷◌, [], length, ap, sym, ◌∙◌, arith, map}
use Rattle.std.specs.Prelude.{codes, string_bytes}
use Rattle.rq_streams.proofs.Wording.{asks_receive, asks_send, number_by, one_word, three_words, text_is}
use Rattle.rq_streams.proofs.words.job.Goals as goal

pub returns-in-len1 : goal.returns-in-len1
returns-in-len1 c =
    let words = c.args.words.now in
    let long : length words ≡ 1 = omega (arith, c.in-len1.len_at_least, c.in-len1.len_below) in
    let word : string_bytes c.word-item.result ≡ codes "receive" = sym c.as_str.ensures.value ∙ text_is c.eq.result c.as_str.result.now (codes "receive") c.eq.ensures c.if-eq.true in
    asks_receive (map string_bytes words) (one_word words c.word-item.result long c.word-item.is ∙ ap (λ w. w ∷ []) word)

pub returns-in_ok-repair-in-len3 : goal.returns-in_ok-repair-in-len3
returns-in_ok-repair-in-len3 c =
    let words = c.args.words.now in
    let long : length words ≡ 3 = omega (arith, c.in-len3.len_at_least, c.in-len3.len_below) in
    let size = c.as_str-in-len3.result.now in
    let repair = c.as_str-in-len3-2.result.now in
    let word : string_bytes c.word-item-then-words-lt4.result ≡ codes "send" = sym c.as_str-then-words-lt4.ensures.value ∙ text_is c.eq-then-words-lt4.result c.as_str-then-words-lt4.result.now (codes "send") c.eq-then-words-lt4.ensures c.if-eq-2.true in
    let spelled : map string_bytes words ≡ codes "send" ∷ size ∷ repair ∷ [] =
    three_words words c.word-item-then-words-lt4.result c.size-item.result c.repair-item.result long c.word-item-then-words-lt4.is c.size-item.is c.repair-item.is
    ∙ (λ i. word i ∷ sym c.as_str-in-len3.ensures.value i ∷ sym c.as_str-in-len3-2.ensures.value i ∷ []) in
    asks_send (map string_bytes words) size repair c.in_ok-size-in-len3.size c.in_ok-repair-in-len3.repair spelled
    (number_by 16 size c.parse.result c.in_ok-size-in-len3.size c.parse.ensures.value.0 c.in_ok-size-in-len3.ensures.value)
    (number_by 32 repair c.parse-in-len3.result c.in_ok-repair-in-len3.repair c.parse-in-len3.ensures.value.0 c.in_ok-repair-in-len3.ensures.value)
