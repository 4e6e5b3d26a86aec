use Rattle.std.proofs.Common.{subst}
use Rattle.mr_canary.specs.declared.note.Asked.TheVariants as asks
use Rattle.mr_canary.specs.declared.waiting.Waiting.TheVariants as waits
use Rattle.mr_canary.specs.steps.Knowing.{KnowsRequest}
use Rattle.mr_canary.proofs.KeysLemmas.{got_known}
use Rattle.mr_canary.proofs.RequestLemmas.{no_get}
use Rattle.mr_canary.proofs.judge.take_answer.Goals as goal

pub returns-in-Get-clause-known : goal.returns-in-Get-clause-known
returns-in-Get-clause-known c = λ notes number room ordered counted request known.
    let of_get : KnowsRequest notes room number (waits.Get c.in-Get.probe c.in-Get.watched) = subst (λ r. KnowsRequest notes room number r) c.in-Get.is request in
    got_known notes room c.args.keys.now number c.args.answer c.in-Get.probe of_get.0 of_get.1 known

pub returns-in-Get-clause-judged : goal.returns-in-Get-clause-judged
returns-in-Get-clause-judged c = λ notes number room ordered request unanswered.
    c.answer_get.ensures notes number room ordered (subst (λ r. KnowsRequest notes room number r) c.in-Get.is request) unanswered

pub returns-in-Set-clause-known : goal.returns-in-Set-clause-known
returns-in-Set-clause-known c = λ notes number room ordered counted request known.
    c.answer_set.ensures.known notes number room ordered counted (subst (λ r. KnowsRequest notes room number r) c.in-Set.is request) known

pub returns-in-Set-clause-judged : goal.returns-in-Set-clause-judged
returns-in-Set-clause-judged c = λ notes number room ordered request unanswered.
    let of_set : KnowsRequest notes room number (waits.Set c.in-Set.probe c.in-Set.value) = subst (λ r. KnowsRequest notes room number r) c.in-Set.is request in
    no_get notes number c.args.answer unanswered c.in-Set.probe (asks.Set c.in-Set.value) of_set.0 of_set.1 (λ same. cc)

pub returns-in-Delete-clause-known : goal.returns-in-Delete-clause-known
returns-in-Delete-clause-known c = λ notes number room ordered counted request known.
    c.answer_delete.ensures.known c.args.place notes number room ordered counted (subst (λ r. KnowsRequest notes room number r) c.in-Delete.is request) known

pub returns-in-Delete-clause-judged : goal.returns-in-Delete-clause-judged
returns-in-Delete-clause-judged c = λ notes number room ordered request unanswered.
    let of_delete : KnowsRequest notes room number (waits.Delete c.in-Delete.probe) = subst (λ r. KnowsRequest notes room number r) c.in-Delete.is request in
    no_get notes number c.args.answer unanswered c.in-Delete.probe asks.Delete of_delete.0 of_delete.1 (λ same. cc)
