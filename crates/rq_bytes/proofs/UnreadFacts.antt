-- Symbols that an order doesn't read, by marks.
use Rattle.std.proofs.Common.{◌≡◌, ◌≢◌, ◌↔◌, ℕ, ◌<◌, Bool, false, List, Option, Some, length, get_or, refl, sym, ap, ◌∙◌, subst}
use Rattle.std.specs.Option.{unwrap_or}
use Rattle.std.proofs.lemmas.Bool.{false_from_ne_true, false≢true}
use Rattle.std.proofs.lemmas.List.Elements.{All-contains, All-from_get_or}
use Rattle.rq_algebra.specs.Operations.{IsUnread}
use Rattle.rq_bytes.specs.SymbolSlab.{Slab, MarksRead, IsZeroUnmarked, IsZeroUnread}

module _ (slab : Slab) (order : List ℕ) (marks : List Bool) (is : ◌≡◌ {A = Option (List ℕ)} slab.order (Some order)) (read : MarksRead (length slab.values) order marks) where
  unmarked : (i : ℕ) → IsUnread (length slab.values) order i → get_or marks i false ≡ false
  unmarked i unread = false_from_ne_true (get_or marks i false) (λ e. All-contains (λ k. k ≢ i) order i unread.1 (read.only i e) refl)

  unread : (i : ℕ) → i < length slab.values → get_or marks i false ≡ false → IsUnread (length slab.values) order i
  unread i l e = (l, All-from_get_or (λ k. k ≢ i) order 0 (λ k m same. false≢true (sym e ∙ ap (λ j. get_or marks j false) (sym same) ∙ read.marked k m)))

  pub zeros_by_marks : IsZeroUnmarked slab marks ↔ IsZeroUnread slab
  zeros_by_marks = (
    λ zeros x set i u.
        let same : x ≡ order = ap (λ (o : Option (List ℕ)). unwrap_or o order) (sym set ∙ is) in
        let here : IsUnread (length slab.values) order i = subst (λ (o : List ℕ). IsUnread (length slab.values) o i) same u in
        zeros i here.0 (unmarked i here),
    λ zeros i l e. zeros order is i (unread i l e),
  )
