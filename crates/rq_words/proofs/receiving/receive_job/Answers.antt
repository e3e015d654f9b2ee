use Rattle.std.proofs.Common.{ℕ, List, Ok, Option, map, option_map, ap, ◌∙◌}
use Rattle.clap.specs.Words.{found_of, rows_of}
use Rattle.rq_options.proofs.Parsed.{fails_refused}
use Rattle.rq_options.specs.Options.{misuse_kind}
use Rattle.rq_words.specs.declared.jobs.Telling.{Telling}
use Rattle.rq_words.specs.Asked.{kinds_of, which_asked, receive_asked, following_asked}
use Rattle.rq_words.proofs.Asking.{both_asked, fails_so, first_refused, passes, second_refused}
use Rattle.rq_words.proofs.receiving.receive_job.Goals as goal

pub returns-in_err-which-clause-fails : goal.returns-in_err-which-clause-fails
returns-in_err-which-clause-fails c =
    fails_refused (kinds_of (receive_asked (rows_of (found_of c.args.matches.now)))) c.from_residual.result c.from_residual.ensures.1

pub returns-in-Err-clause-fails : goal.returns-in-Err-clause-fails
returns-in-Err-clause-fails c =
    let rows = rows_of (found_of c.args.matches.now) in
    let kind = misuse_kind c.in-Err.misuse in
    fails_so (receive_asked rows) kind c.error.result (first_refused (which_asked rows) (following_asked rows) kind (rw c.in-Err.is at c.in_ok-which.ensures))
    c.error.ensures

pub returns-in-Err-following_of-clause-fails : goal.returns-in-Err-following_of-clause-fails
returns-in-Err-following_of-clause-fails c =
    let rows = rows_of (found_of c.args.matches.now) in
    let which : List ℕ × List (List ℕ) = (c.in-Ok.which.0.items, map (λ n. n.items) c.in-Ok.which.1.items) in
    let kind = misuse_kind c.in-Err-following_of.misuse in
    let is = rw c.in-Ok.is at c.in_ok-which.ensures in
    fails_so (receive_asked rows) kind c.error-in-Err-following_of.result
    (second_refused (which_asked rows) (following_asked rows) which kind is c.in-Err-following_of.ensures.value) c.error-in-Err-following_of.ensures

pub returns-in_err-files-clause-fails : goal.returns-in_err-files-clause-fails
returns-in_err-files-clause-fails c =
    fails_refused (kinds_of (receive_asked (rows_of (found_of c.args.matches.now)))) c.from_residual-in_err-files.result c.from_residual-in_err-files.ensures.1

pub returns-in-Some-clause-fails : goal.returns-in-Some-clause-fails
returns-in-Some-clause-fails c =
    let rows = rows_of (found_of c.args.matches.now) in
    let which : List ℕ × List (List ℕ) = (c.in-Ok.which.0.items, map (λ n. n.items) c.in-Ok.which.1.items) in
    let following = c.in-Ok-following_of.following in
    let asked : Option (List ℕ) × (Option ℕ × (ℕ × Telling)) = (option_map (λ s. s.now) following.0, following.1) in
    let is = rw c.in-Ok.is at c.in_ok-which.ensures in
    passes (receive_asked rows) (which, asked)
    (both_asked (which_asked rows) (following_asked rows) which asked is c.in-Ok-following_of.ensures.value)

pub returns-in-None-clause-job : goal.returns-in-None-clause-job
returns-in-None-clause-job c =
    let rows = rows_of (found_of c.args.matches.now) in
    let which : List ℕ × List (List ℕ) = (c.in-Ok.which.0.items, map (λ n. n.items) c.in-Ok.which.1.items) in
    let following = c.in-Ok-following_of.following in
    let asked : Option (List ℕ) × (Option ℕ × (ℕ × Telling)) = (option_map (λ s. s.now) following.0, following.1) in
    let is = rw c.in-Ok.is at c.in_ok-which.ensures in
    let none = ap (λ o. option_map (λ s. s.now) o) c.in-None.is in
    record {
      timeout = following.1.0;
      asked_for = both_asked (which_asked rows) (following_asked rows) which asked is c.in-Ok-following_of.ensures.value ∙ ap (λ folder. Ok (which, (folder, following.1))) none;
      key = c.text_of-key.ensures;
      output = c.text_of-output.ensures;
      state = c.text_of-state.ensures;
      files = c.in_ok-files.ensures;
    }

pub returns-in-None-clause-fails : goal.returns-in-None-clause-fails
returns-in-None-clause-fails c =
    let rows = rows_of (found_of c.args.matches.now) in
    let which : List ℕ × List (List ℕ) = (c.in-Ok.which.0.items, map (λ n. n.items) c.in-Ok.which.1.items) in
    let following = c.in-Ok-following_of.following in
    let asked : Option (List ℕ) × (Option ℕ × (ℕ × Telling)) = (option_map (λ s. s.now) following.0, following.1) in
    let is = rw c.in-Ok.is at c.in_ok-which.ensures in
    passes (receive_asked rows) (which, asked)
    (both_asked (which_asked rows) (following_asked rows) which asked is c.in-Ok-following_of.ensures.value)
