use Rattle.std.proofs.Common.{◌≡◌}
use Rattle.std.specs.Array.Iter.{array_into_iter_items}
use Rattle.mr_text.specs.CauseText.{cause_named, first_named}
use Rattle.mr_text.proofs.cause_text.named_cause.Given as goal

-- none of the causes so far has the text
abbrev pub invariant-loop-cause : goal.invariant-loop-cause
invariant-loop-cause l =
    (goal.iterator-loop-cause).can_next l.cause-iterator ×
    (goal.iterator-loop-cause).is_finite l.cause-iterator ×
    (cause_named l.text ≡ first_named (array_into_iter_items l.cause-iterator) l.text)
