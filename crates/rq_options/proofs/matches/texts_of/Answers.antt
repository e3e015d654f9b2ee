use Rattle.std.proofs.Common.{◌≡◌, ◌∙◌, ℕ, List, [], Some, None, Bor, ap, map, sym}
use Rattle.std.specs.Prelude.{option_map, unwrap_or}
use Rattle.std.proofs.lemmas.Result.{IfOk-weaker}
use Rattle.clap.specs.Words.{all_of, found_of, rows_of}
use Rattle.clap.proofs.WalkLemmas.{raw_values-rows}
use Rattle.rq_options.proofs.matches.texts_of.Goals as goal

abbrev texts : Bor (List (Bor (List ℕ))) → List (List ℕ)
texts s = map (λ v. v.now) s.now

pub returns-in-Some : goal.returns-in-Some
returns-in-Some c =
    let all : option_map texts c.get_strs.result ≡ all_of c.args.id.now (rows_of (found_of c.args.matches.now))
    = c.get_strs.ensures ∙ raw_values-rows (found_of c.args.matches.now) c.args.id.now in
    let some : Some (texts c.in-Some.texts) ≡ all_of c.args.id.now (rows_of (found_of c.args.matches.now)) = ap (option_map texts) (sym c.in-Some.is) ∙ all in
    IfOk-weaker c.from_slice.result _ _ (λ v h. ap (map (λ t. t.now)) h ∙ ap (λ o. unwrap_or o []) some) c.from_slice.ensures.items

pub returns-in-None : goal.returns-in-None
returns-in-None c =
    let all : option_map texts c.get_strs.result ≡ all_of c.args.id.now (rows_of (found_of c.args.matches.now))
    = c.get_strs.ensures ∙ raw_values-rows (found_of c.args.matches.now) c.args.id.now in
    let none : None ≡ all_of c.args.id.now (rows_of (found_of c.args.matches.now)) = ap (option_map texts) (sym c.in-None.is) ∙ all in
    ap (map (λ t. t.now)) c.new.ensures.items ∙ ap (λ o. unwrap_or o []) none
