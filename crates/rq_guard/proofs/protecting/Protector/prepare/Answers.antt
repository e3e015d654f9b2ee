use Rattle.std.proofs.Common.{◌≡◌, ◌^◌, ◌<◌, List, ℕ, map, take, refl, sym, ap, subst, ◌∙◌, inl, arith}
use Rattle.std.proofs.lemmas.Result.{err_from_is_err_and}
use Rattle.rq_bytes.specs.declared.error.Error.{Error}
use Rattle.rq_standard.specs.Configuration.{largest_block}
use Rattle.rq_cells.specs.declared.head.Head.{Head}
use Rattle.rq_cast.specs.Ids.{IsIdEnd}
use Rattle.rq_cast.specs.Names.{AreNames}
use Rattle.rq_cast.specs.Parts.{object_of, part_head}
use Rattle.rq_cast.specs.Sent.{Sending, IsSeries, encoded_by, sending_of}
use Rattle.rq_guard.specs.declared.list.DigestList.{DigestList}
use Rattle.rq_guard.specs.declared.protecting.Half.TheVariants.{Source, Spare}
use Rattle.rq_guard.specs.Lists.{listed_of, list_number}
use Rattle.rq_guard.specs.Protecting.{list_of_part, IsListSending, RefusesList, IsRepairSeries, IsRepairSending, RefusesGuarding}
use Rattle.rq_guard.specs.ProtectingParts.{guarding_of}
use Rattle.rq_guard.proofs.Guardings.{guarding_by, repair_sending, no_layout, no_encoder, no_list, list_is, list_number_fits, table_memory, table_full}
use Rattle.rq_guard.proofs.protecting.Protector.prepare.Goals as goal
use Rattle.rq_guard.proofs.protecting.Protector.prepare.Goals.{After-as_slice-object, After-new-2}

-- the object
is_object : (c : After-as_slice-object) (before : List (List ℕ)) → AreNames before c.args.self.now.names
    → c.as_slice-object.result.now ≡ object_of c.args.is_last before c.args.bytes.items
is_object c before are = c.as_slice-object.ensures.value ∙ c.in_ok-sealed.ensures.object before are

pub returns-in_err-sealed-clause-refused : goal.returns-in_err-sealed-clause-refused
returns-in_err-sealed-clause-refused c =
    let p = err_from_is_err_and c.from_residual.result c.from_residual.ensures.1 in
    rw (p.1, p.2) (λ before are. inl c.in_err-sealed.ensures.memory)

pub returns-in_err-configuration-clause-refused : goal.returns-in_err-configuration-clause-refused
returns-in_err-configuration-clause-refused c =
    let moved = (goal.at.returns-in_err-configuration-clause-refused c).After-as_slice-object in
    let p = err_from_is_err_and c.from_residual-in_err-configuration.result c.from_residual-in_err-configuration.ensures.1 in
    let refuses = c.in_err-configuration.ensures.refused in
    rw (p.1, p.2) (λ before are.
    no_layout c.args.self.now.key.now c.args.is_last before c.args.bytes.items c.as_slice-object.result.now (is_object moved before are)
    c.in_err-configuration.field-0.0 refuses.0 refuses.1)

pub returns-in_err-table-clause-refused : goal.returns-in_err-table-clause-refused
returns-in_err-table-clause-refused c =
    let p = err_from_is_err_and c.from_residual-in_err-table.result c.from_residual-in_err-table.ensures.1 in
    rw (p.1, p.2) (λ before are. inl (table_memory c.in_err-table.field-0.0 c.in_err-table.ensures))

pub returns-in_err-digested-clause-refused : goal.returns-in_err-digested-clause-refused
returns-in_err-digested-clause-refused c =
    let moved = (goal.at.returns-in_err-digested-clause-refused c).After-as_slice-object in
    let p = err_from_is_err_and c.from_residual-in_err-digested.result c.from_residual-in_err-digested.ensures.1 in
    rw (p.1, p.2) (λ before are.
    no_encoder c.args.self.now.key.now c.args.is_last before c.args.bytes.items c.as_slice-object.result.now (is_object moved before are) _
    c.in_ok-configuration.configuration c.in_err-digested.field-0.0 (table_full _ c.in_ok-table.ensures) c.in_ok-configuration.ensures.layout c.in_err-digested.ensures.refused)

pub returns-in_err-listed-clause-refused : goal.returns-in_err-listed-clause-refused
returns-in_err-listed-clause-refused c =
    let p = err_from_is_err_and c.from_residual-in_err-listed.result c.from_residual-in_err-listed.ensures.1 in
    rw (p.1, p.2) (λ before are. inl c.in_err-listed.ensures.memory)

-- the head, and what is listed
module _ (c : After-new-2) (before : List (List ℕ)) (are : AreNames before c.args.self.now.names) where
  abbrev head : Head
  head = part_head c.args.is_last before c.in_ok-configuration.configuration c.as_slice-object.result.now

  is_head : c.part_head-head.result ≡ head
  is_head = c.part_head-head.ensures.head before are (c.digests.ensures ∙ c.in_ok-digested.ensures.digests)

  is_listed : (l : DigestList) → l.head ≡ c.part_head-head.result → l.digests.items ≡ map (take 16) c.digests-2.result.now
      → listed_of l ≡ list_of_part head c.as_slice-object.result.now
  is_listed l headed digests =
      list_is (listed_of l) c.part_head-head.result head c.in_ok-configuration.configuration c.as_slice-object.result.now c.digests-2.result.now headed digests
      (c.digests-2.ensures ∙ c.in_ok-digested.ensures.digests) is_head refl

  -- a half of the list is refused
  unlisted : (l : DigestList) (e : Error) → l.head ≡ c.part_head-head.result → l.digests.items ≡ map (take 16) c.digests-2.result.now
      → c.as_slice-object.result.now ≡ object_of c.args.is_last before c.args.bytes.items → RefusesList c.args.self.now.key.now (listed_of l) e
      → RefusesGuarding c.args.self.now.key.now c.args.is_last before c.args.bytes.items e
  unlisted l e headed digests object refuses =
      no_list c.args.self.now.key.now c.args.is_last before c.args.bytes.items c.as_slice-object.result.now object c.in_ok-configuration.configuration e
      c.in_ok-configuration.ensures.layout (subst (λ k. RefusesList c.args.self.now.key.now k e) (is_listed l headed digests) refuses)

pub list_sender-requires : goal.list_sender-requires
list_sender-requires c =
    let number = ap (λ (h : Head). h.number) c.in_ok-listed.ensures.head ∙ c.part_head-head.ensures.number in
    subst (λ k. list_number k < 2 ^ 32) (sym number) (list_number_fits c.args.is_last c.args.self.now.names.count c.requires)

pub returns-in_err-list-clause-refused : goal.returns-in_err-list-clause-refused
returns-in_err-list-clause-refused c =
    let at = goal.at.returns-in_err-list-clause-refused c in
    let p = err_from_is_err_and c.from_residual-in_err-list.result c.from_residual-in_err-list.ensures.1 in
    let made = c.in_ok-listed.ensures in
    rw (p.1, p.2) (λ before are.
    unlisted at.After-new-2 before are c.in_ok-listed.listed c.in_err-list.field-0.0 made.head made.digests (is_object at.After-as_slice-object before are)
    c.in_err-list.ensures.refused)

pub returns-in_err-spare-clause-refused : goal.returns-in_err-spare-clause-refused
returns-in_err-spare-clause-refused c =
    let at = goal.at.returns-in_err-spare-clause-refused c in
    let p = err_from_is_err_and c.from_residual-in_err-spare.result c.from_residual-in_err-spare.ensures.1 in
    let made = c.in_ok-listed.ensures in
    rw (p.1, p.2) (λ before are.
    unlisted at.After-new-2 before are c.in_ok-listed.listed c.in_err-spare.field-0.0 made.head made.digests (is_object at.After-as_slice-object before are)
    c.in_err-spare.ensures.refused)

pub returns-clause-prepared : goal.returns-clause-prepared
returns-clause-prepared c before are =
    let at = goal.at.returns-clause-prepared c in
    let s = c.args.self.now in
    let key = s.key.now in
    let object = c.as_slice-object.result.now in
    let made = c.in_ok-listed.ensures in
    let digested = c.in_ok-digested.ensures in
    let series : IsRepairSeries s.order.repair (largest_block (encoded_by c.in_ok-digested.digested).configuration) c.new-series.result = (
      c.end.result,
      subst (λ k. IsIdEnd k s.order.repair c.end.result) c.largest_block-symbols.ensures.value c.end.ensures,
      subst (λ k. IsSeries k 1 c.end.result c.new-series.result) c.largest_block-symbols.ensures.value c.new-series.ensures,
    ) in
    let headed = is_head at.After-new-2 before are in
    let sends : IsRepairSending s.order.repair key c.args.is_last before object (sending_of c.new-part.result) =
    subst (IsRepairSending s.order.repair key c.args.is_last before object) (sym c.new-part.ensures)
    (repair_sending s.order.repair key c.args.is_last before object _ c.in_ok-configuration.configuration _ (table_full _ c.in_ok-table.ensures)
    (omega (arith, c.requires, are.count)) c.in_ok-configuration.ensures.layout digested.encodes digested.configuration headed refl series) in
    let listed = is_listed at.After-new-2 before are c.in_ok-listed.listed made.head made.digests
    ∙ ap (λ h. list_of_part h object) (sym (ap (λ (k : Sending). k.head) c.new-part.ensures ∙ headed)) in
    guarding_by key c.args.is_last before c.args.bytes.items object (is_object at.After-as_slice-object before are) s.order
    (guarding_of (record { list = c.in_ok-list.list; part = c.new-part.result; spare = c.in_ok-spare.spare })) sends
    (subst (λ l. IsListSending key l Source (sending_of c.in_ok-list.list)) listed c.in_ok-list.ensures.sends)
    (subst (λ l. IsListSending key l Spare (sending_of c.in_ok-spare.spare)) listed c.in_ok-spare.ensures.sends)
