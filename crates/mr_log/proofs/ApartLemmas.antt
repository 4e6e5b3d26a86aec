-- Lines of a kind are a pause apart.
use Rattle.std.proofs.Common.{◌≡◌, ℕ, zero, suc, ◌+◌, ◌<◌, ◌≤◌, List, [], ◌∷◌, length, get_or, set, Option, None, Some, inl, inr, refl, sym, ◌∙◌, arith, length-set, get_or-set_same, get_or-set_other}
use Rattle.std.proofs.lemmas.Bool.Decides.{eqb_tells}
use Rattle.std.proofs.lemmas.Option.{get_or_from_slice_get}
use Rattle.mr_log.specs.Kinds.{number_of_kind, most_kinds}
use Rattle.mr_log.specs.Laws.{AreApart}
use Rattle.mr_log.specs.Log.{Notes}
use Rattle.mr_log.specs.Runs.{Step, Noted, Taken, IsRun, Told, told_in}
use Rattle.mr_log.specs.Waiting.{LogView, kind_in, no_line, last_said, pause, IsPast, IsDue}
use Rattle.mr_log.specs.declared.happening.Happening.{Happening}
use Rattle.mr_log.specs.declared.kind.Kind.{Kind}
use Rattle.mr_log.proofs.KindLemmas.{number-lt}

-- a line that was told at no time in particular
abbrev pub untold : Told
untold = record { line = no_line; at = 0 }

-- a line was told when the last of its kind was past
abbrev WasDue : List (Option ℕ) → Told → Type 0
WasDue said told = IsPast told.at (last_said said (kind_in told.line))

-- noting says nothing
noted_same : (old : LogView) (happening : Happening) (new : LogView) → Notes old happening new → new.said ≡ old.said
noted_same old happening new (inl step) = step.same
noted_same old happening new (inr step) = step.same

-- what is past stays past
still_past : (now later : ℕ) (last : Option ℕ) → IsPast now last → now ≤ later → IsPast later last
still_past now later None past after = tt
still_past now later (Some at) past after = omega (arith, past)

-- once a line of a kind was said, what was told when that was past was told when what was said before is past too
was_due_before : (said : List (Option ℕ)) (kind : Kind) (now : ℕ) (told : Told) → length said ≡ most_kinds → IsPast now (last_said said kind)
    → WasDue (set said (number_of_kind kind) (Some now)) told → WasDue said told
was_due_before said kind now told counted past due = elim (eqb_tells (number_of_kind (kind_in told.line)) (number_of_kind kind)) [
  | inl (_, same) ↦
      let here : get_or (set said (number_of_kind kind) (Some now)) (number_of_kind (kind_in told.line)) None ≡ Some now =
      rw same (get_or-set_same said (number_of_kind kind) (Some now) None (rw counted (number-lt kind))) in
      let later : now + pause ≤ told.at = rw here at due in
      rw same (still_past now told.at (last_said said kind) past (omega arith))
  | inr (_, apart) ↦ rw (get_or-set_other said (number_of_kind kind) (number_of_kind (kind_in told.line)) (Some now) None apart) at due
]

-- each line is told when the last of its kind is past
pub each_was_due : (steps : List Step) (old new : LogView) → length old.said ≡ most_kinds → IsRun old steps new
    → (k : ℕ) → k < length (told_in steps) → WasDue old.said (get_or (told_in steps) k untold)
each_was_due [] old new counted run k within = absurd (omega arith)
each_was_due (Noted happening ∷ steps) old new counted (next, step, run) k within =
    let same = noted_same old happening next step in
    rw (sym same) (each_was_due steps next new (rw same counted) run k within)
each_was_due (Taken now None ∷ steps) old new counted (next, step, run) k within =
    rw (sym step.same) (each_was_due steps next new (rw step.same counted) run k within)
each_was_due (Taken now (Some line) ∷ steps) old new counted (next, step, run) zero within =
    rw (get_or_from_slice_get old.waiting step.place line no_line step.there) at (step.first.due no_line)
each_was_due (Taken now (Some line) ∷ steps) old new counted (next, step, run) (suc k) within =
    let due : IsDue old.said now line = rw (get_or_from_slice_get old.waiting step.place line no_line step.there) at (step.first.due no_line) in
    let counted' : length next.said ≡ most_kinds = rw step.said (length-set old.said _ _ ∙ counted) in
    let later = each_was_due steps next new counted' run k (omega arith) in
    was_due_before old.said (kind_in line) now (get_or (told_in steps) k untold) counted due (rw step.said at later)

-- a line that is told once one of its kind was said comes a pause later
after_said : (said : List (Option ℕ)) (kind : Kind) (now : ℕ) (told : Told) → length said ≡ most_kinds
    → WasDue (set said (number_of_kind kind) (Some now)) told → kind ≡ kind_in told.line → now + pause ≤ told.at
after_said said kind now told counted due same =
    let here : last_said (set said (number_of_kind kind) (Some now)) (kind_in told.line) ≡ Some now =
    rw (sym same) (get_or-set_same said (number_of_kind kind) (Some now) None (rw counted (number-lt kind))) in
    rw here at due

-- whichever line stands for one that isn't there
told_any : (told : List Told) (k : ℕ) (d : Told) → k < length told → get_or told k d ≡ get_or told k untold
told_any [] k d within = absurd (omega arith)
told_any (t ∷ told) zero d within = refl
told_any (t ∷ told) (suc k) d within = told_any told k d (omega arith)

-- lines of a kind are a pause apart
pub are_apart : (steps : List Step) (old new : LogView) → length old.said ≡ most_kinds → IsRun old steps new → AreApart (told_in steps)
are_apart [] old new counted run i j d i<j j<n same = absurd (omega arith)
are_apart (Noted happening ∷ steps) old new counted (next, step, run) i j d i<j j<n same =
    are_apart steps next new (rw (noted_same old happening next step) counted) run i j d i<j j<n same
are_apart (Taken now None ∷ steps) old new counted (next, step, run) i j d i<j j<n same =
    are_apart steps next new (rw step.same counted) run i j d i<j j<n same
are_apart (Taken now (Some line) ∷ steps) old new counted (next, step, run) zero zero d i<j j<n same = absurd (omega arith)
are_apart (Taken now (Some line) ∷ steps) old new counted (next, step, run) zero (suc j) d i<j j<n same =
    let counted' : length next.said ≡ most_kinds = rw step.said (length-set old.said _ _ ∙ counted) in
    let within : j < length (told_in steps) = omega arith in
    let any = told_any (told_in steps) j d within in
    let later = each_was_due steps next new counted' run j within in
    rw any (after_said old.said (kind_in line) now (get_or (told_in steps) j untold) counted (rw step.said at later) (rw any at same))
are_apart (Taken now (Some line) ∷ steps) old new counted (next, step, run) (suc i) zero d i<j j<n same = absurd (omega arith)
are_apart (Taken now (Some line) ∷ steps) old new counted (next, step, run) (suc i) (suc j) d i<j j<n same =
    let counted' : length next.said ≡ most_kinds = rw step.said (length-set old.said _ _ ∙ counted) in
    are_apart steps next new counted' run i j d (omega arith) (omega arith) same
