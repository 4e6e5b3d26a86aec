use Rattle.std.proofs.Common.{Ok, ◌∙◌, subst}
use Rattle.mr_text.specs.steps.ReplyProgress.{TakesStep}
use Rattle.mr_text.specs.declared.reading.unfinished_reply.ReadStep.{ReadStep}
use Rattle.mr_text.proofs.ReplyProgress.{front_some}
use Rattle.mr_text.proofs.UnfinishedReplies.{items_given, items_wait, items_lack, reads_on_by}
use Rattle.mr_text.proofs.reading.unfinished_reply.UnfinishedReply.read_items.Goals as goal

pub items-preserved : goal.items-preserved
items-preserved c =
    let taken = subst (λ (s : ReadStep). TakesStep c.items.self c.read_step.new.self (Ok s)) c.in-Ok-More.field-0-is c.in-Ok-More.ensures in
    record {
      progress = taken.progress;
      reads_on = reads_on_by c.args.self.now.stream c.items.self.stream c.read_step.new.self.stream c.items.invariant.reads_on taken.reads_on;
      begun = taken.step.1;
    }

pub items-smaller : goal.items-smaller
items-smaller c =
    let taken = subst (λ (s : ReadStep). TakesStep c.items.self c.read_step.new.self (Ok s)) c.in-Ok-More.field-0-is c.in-Ok-More.ensures in
    taken.step.0

pub returns-in-Ok-End-clause-next : goal.returns-in-Ok-End-clause-next
returns-in-Ok-End-clause-next c =
    let taken = subst (λ (s : ReadStep). TakesStep c.items.self c.read_step.new.self (Ok s)) c.in-Ok-End.field-0-is c.in-Ok-End.ensures in
    items_given c.args.self.now c.items.self c.read_step.new.self c.requires.progress c.requires.going_on c.requires.begun c.items.invariant.reads_on c.in-Ok-End.size
    c.give_items.new.self.stream c.give_items.result taken c.give_items.ensures.items c.give_items.ensures.stream

pub wait-requires : goal.wait-requires
wait-requires c =
    let taken = subst (λ (s : ReadStep). TakesStep c.items.self c.read_step.new.self (Ok s)) c.in-Ok-Waits.field-0-is c.in-Ok-Waits.ensures in
    let now = c.read_step.new.self in
    front_some now.stream.front now.items.items now.said taken.progress (taken.step.0 ∙ c.items.invariant.begun)

pub returns-in-Ok-Waits-clause-next : goal.returns-in-Ok-Waits-clause-next
returns-in-Ok-Waits-clause-next c =
    let taken = subst (λ (s : ReadStep). TakesStep c.items.self c.read_step.new.self (Ok s)) c.in-Ok-Waits.field-0-is c.in-Ok-Waits.ensures in
    items_wait c.args.self.now c.items.self c.read_step.new.self c.requires.progress c.requires.going_on c.requires.begun c.items.invariant.reads_on
    c.wait.result c.wait.new.self taken c.wait.ensures

pub returns-in-Err-clause-next : goal.returns-in-Err-clause-next
returns-in-Err-clause-next c =
    items_lack c.args.self.now c.items.self c.read_step.new.self c.requires.progress c.requires.going_on c.requires.begun c.items.invariant.reads_on
    c.in-Err.field-0 c.requires.readable c.in-Err.ensures
