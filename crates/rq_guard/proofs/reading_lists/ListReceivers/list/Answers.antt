use Rattle.std.proofs.Common.{Some, None, ap, ◌∙◌, refl, Result, Ok, Err, option_map, vec_items}
use Rattle.std.specs.Prelude.{IfOk, option_and_then}
use Rattle.rq_cast.specs.declared.part_receiver.PartReceiver.{PartReceiver}
use Rattle.rq_guard.specs.Lists.{listed_of}
use Rattle.rq_guard.proofs.ReceivedLists.{list_said}
use Rattle.rq_guard.proofs.reading_lists.ListReceivers.list.Goals as goal

if_ok_by : {T E : Type 0} (r : Result T E) (P Q : T → Type 0) → ((v : T) → P v → Q v) → IfOk r P → IfOk r Q
if_ok_by (Ok v) P Q by h = by v h
if_ok_by (Err e) P Q by h = tt

pub returns-in-Some-object-clause-list : goal.returns-in-Some-object-clause-list
returns-in-Some-object-clause-list c =
    let r = c.args.self.now in
    let i = c.args.index in
    let is = c.in-Some-object.ensures ∙ ap (option_and_then (λ (p : PartReceiver). option_map vec_items p.attempt.object)) c.in-Some.ensures.value in
    if_ok_by c.list_of_part.result _ _
    (λ o list. list_said c.args.by.now.table.now c.args.by.now.key.now c.args.stream.now r i (Some c.in-Some-object.object.now) (option_map listed_of o) c.requires.sound is list)
    c.list_of_part.ensures.list

pub returns-in-None-clause-list : goal.returns-in-None-clause-list
returns-in-None-clause-list c =
    let is = c.in-None.ensures ∙ ap (option_and_then (λ (p : PartReceiver). option_map vec_items p.attempt.object)) c.in-Some.ensures.value in
    list_said c.args.by.now.table.now c.args.by.now.key.now c.args.stream.now c.args.self.now c.args.index None None c.requires.sound is refl

pub returns-in_default-clause-list : goal.returns-in_default-clause-list
returns-in_default-clause-list c =
    let is = ap (option_and_then (λ (p : PartReceiver). option_map vec_items p.attempt.object)) c.in_default.ensures.value in
    list_said c.args.by.now.table.now c.args.by.now.key.now c.args.stream.now c.args.self.now c.args.index None None c.requires.sound is refl
