-- What came piece by piece is searched, or the stream that was found there is received.
use Rattle.std.proofs.Common.{◌≡◌, ℕ, ◌≤◌, List, [], ◌++◌, length, drop, sym, ap, subst, ◌∙◌, None, Some, append-nil, append_assoc}
use Rattle.rq_standard.specs.declared.row.TableRow.{TableRow}
use Rattle.rq_cells.specs.declared.wanted.Heads.{Heads}
use Rattle.rq_cells.specs.Cells.{Key}
use Rattle.rq_cells.specs.declared.head.Head.{Head}
use Rattle.rq_cells.specs.declared.wanted.Wanted.{Wanted}
use Rattle.rq_cells.specs.Wanted.{Wish, wish_of, AreHeads, IsFirstWanted, HasNoWanted}
use Rattle.rq_cast.specs.declared.receiver.Receiver.{Receiver}
use Rattle.rq_cast.specs.declared.stream_receiver.StreamReceiver.{StreamReceiver}
use Rattle.rq_cast.specs.Receiving.{HasReadAll, ReadsMore, HandsOut, SeesHeads, IsSearching, IsFoundIn, IsReceiving, HasFound, HasFed, Begins}
use Rattle.rq_cast.proofs.Searched.{found_first, unfound_more}

module _ (table : List TableRow) (w : Wish) (width most : ℕ) where
  -- a piece more comes of the stream
  pub receives_more : (past given piece : List ℕ) (old new : StreamReceiver) → ReadsMore table piece old new
      → IsReceiving table w width most past given old → IsReceiving table w width most (past ++ piece) given new
  receives_more past given piece old new more r = record {
    found = r.found;
    earlier = r.earlier;
    last = r.last;
    later = r.later ++ piece;
    cut = ap (λ xs. xs ++ piece) r.cut ∙ append_assoc (r.earlier ++ r.last) r.later piece;
    is_found = r.is_found;
    read = subst (λ xs. HasReadAll table w.key width r.found xs given new) (append_assoc r.found.bytes.items r.later piece)
        (more w.key width r.found (r.found.bytes.items ++ r.later) given r.read);
  }

  -- some of it is handed out
  pub receives_less : (past given bytes : List ℕ) (old new : StreamReceiver) → HandsOut old bytes new
      → IsReceiving table w width most past given old → IsReceiving table w width most past (given ++ bytes) new
  receives_less past given bytes old new hands r = record {
    found = r.found;
    earlier = r.earlier;
    last = r.last;
    later = r.later;
    cut = r.cut;
    is_found = r.is_found;
    read = hands table w.key width r.found (r.found.bytes.items ++ r.later) given r.read;
  }

  -- what was found where the stream is known, and where it isn't
  pub receiving_of : (past given : List ℕ) (r : Receiver) (s : StreamReceiver) → r.stream ≡ Some s → HasFed table w width most past given r
      → IsReceiving table w width most past given s
  receiving_of past given r s is fed = subst (HasFound table w width most past given r) is fed.found

  pub searching_of : (past given : List ℕ) (r : Receiver) → r.stream ≡ None → HasFed table w width most past given r
      → IsSearching w past r.search.bytes r.settled r.seen × (given ≡ [])
  searching_of past given r is fed = subst (HasFound table w width most past given r) is fed.found

  -- the same of another receiver, of the same stream
  pub fed_stream : (past given past' given' : List ℕ) (old new : Receiver) (s : StreamReceiver) → HasFed table w width most past given old
      → new.search.wish ≡ old.search.wish → new.wanted ≡ old.wanted → new.window ≡ old.window → new.stream ≡ Some s
      → IsReceiving table w width most past' given' s → HasFed table w width most past' given' new
  fed_stream past given past' given' old new s fed wish wanted window is r = record {
    wish = wish ∙ fed.wish;
    wanted_is = ap wish_of wanted ∙ fed.wanted_is;
    table_is = ap (λ k. k.table.now) wanted ∙ fed.table_is;
    width_is = window ∙ fed.width_is;
    found = subst (HasFound table w width most past' given' new) (sym is) r;
  }

  -- the first wanted cell is whole
  module _ (past given piece : List ℕ) (old : Receiver) (fed : HasFed table w width most past given old) (none : old.stream ≡ None) where
    abbrev all : List ℕ
    all = old.search.bytes ++ piece

    searching : IsSearching w past old.search.bytes old.settled old.seen
    searching = (searching_of past given old none fed).0

    module _ (mid new : Receiver) (wanted : mid.wanted ≡ old.wanted) (window : mid.window ≡ old.window) (settled : mid.settled ≡ old.settled)
        (few : length piece ≤ most) (h : Head) (before : Heads) (at : ℕ) (first : IsFirstWanted w all at h) (heads : AreHeads w all at before)
        (kept : mid.search.bytes ≡ drop at all) (b : Begins h before mid new) where
      is_found : IsFoundIn w most past piece b.found
      is_found =
          found_first w past old.search.bytes piece old.settled old.seen searching most few b.found at (subst (IsFirstWanted w all at) (sym b.head) first)
          (b.bytes ∙ kept) before heads (subst (λ k. SeesHeads k before b.found.seen) settled b.sees)

      read : HasReadAll table w.key width b.found (b.found.bytes.items ++ []) given b.stream
      read =
          let over : mid.wanted.table.now ≡ table = ap (λ (k : Wanted). k.table.now) wanted ∙ fed.table_is in
          let keyed : mid.wanted.key.now ≡ w.key = ap (λ (k : Wanted). k.key.now) wanted ∙ ap (λ (k : Wish). k.key) fed.wanted_is in
          let wide : mid.window ≡ width = window ∙ fed.width_is in
          let whole : b.found.bytes.items ≡ b.found.bytes.items ++ [] = sym (append-nil b.found.bytes.items) in
          let nothing : [] ≡ given = sym (searching_of past given old none fed).1 in
          subst (λ (k : List TableRow × Key × ℕ × List ℕ × List ℕ). HasReadAll k.0 k.1 k.2 b.found k.3 k.4 b.stream)
          (λ i. (over i, keyed i, wide i, whole i, nothing i)) b.read

      pub fed_found : HasFed table w width most (past ++ piece) given new
      fed_found = record {
        wish = b.wish ∙ ap wish_of wanted ∙ fed.wanted_is;
        wanted_is = ap wish_of (b.wanted_is ∙ wanted) ∙ fed.wanted_is;
        table_is = ap (λ (k : Wanted). k.table.now) (b.wanted_is ∙ wanted) ∙ fed.table_is;
        width_is = b.width_is ∙ window ∙ fed.width_is;
        found = subst (HasFound table w width most (past ++ piece) given new) (sym b.is) (record {
          found = b.found;
          earlier = past;
          last = piece;
          later = [];
          cut = sym (append-nil (past ++ piece));
          is_found = is_found;
          read = read;
        });
      }

    -- or none is yet
    pub fed_unfound : (new : Receiver) → new.search.wish ≡ w → new.wanted ≡ old.wanted → new.window ≡ old.window → new.stream ≡ None
        → (from : ℕ) (heads every : Heads) → HasNoWanted w all from heads every → new.search.bytes ≡ drop from all
        → SeesHeads old.settled heads new.settled → SeesHeads old.settled every new.seen → HasFed table w width most (past ++ piece) given new
    fed_unfound new wish wanted window still from heads every h kept sees sees_all = record {
      wish = wish;
      wanted_is = ap wish_of wanted ∙ fed.wanted_is;
      table_is = ap (λ (k : Wanted). k.table.now) wanted ∙ fed.table_is;
      width_is = window ∙ fed.width_is;
      found = subst (HasFound table w width most (past ++ piece) given new) (sym still) (
        unfound_more w past old.search.bytes piece old.settled old.seen searching from new.search.bytes heads every h kept new.settled new.seen sees sees_all,
        (searching_of past given old none fed).1,
      );
    }
