-- What is noted is said or waits.
use Rattle.std.proofs.Common.{◌≡◌, ℕ, ◌+◌, ◌-◌, ◌^◌, ◌<◌, ◌≤◌, List, [], ◌∷◌, ◌++◌, length, get_or, min, cond, None, Some, Bool, true, false, inl, inr, refl, sym, ap, ◌∙◌, arith, length-set}
use Rattle.std.proofs.lemmas.List.Sums.{sum_by-append, sum_by-cons, sum_by-remove, sum_by-set}
use Rattle.std.proofs.lemmas.Option.{slice_get_within, get_or_from_slice_get}
use Rattle.mr_log.specs.Kinds.{kind_of, same_kind}
use Rattle.mr_log.specs.Waiting.{LogView, kind_in, no_line, with_one_more, IsLog}
use Rattle.mr_log.specs.Log.{Notes, BeginsToWait, CountsOneMore, Says, new_log}
use Rattle.mr_log.specs.Runs.{Step, Noted, Taken, IsStep, IsRun, Told, told_in, notes_kind, noted_of, lines_of, more_in, more_of, stands_for, waiting_of}
use Rattle.mr_log.specs.declared.happening.Happening.{Happening}
use Rattle.mr_log.specs.declared.kind.Kind.{Kind}
use Rattle.mr_log.specs.declared.log.Said.{Said}
use Rattle.mr_log.proofs.WaitingLemmas.{one_more_kind, one_each_kept, one_each_left}

-- 1 where the happening is of the kind
abbrev one_of : Kind → Happening → ℕ
one_of kind happening = cond (same_kind kind (kind_of happening)) 1 0

-- the first of its kind waits
begun : (kind : Kind) (old : LogView) (happening : Happening) (new : LogView) → BeginsToWait old happening new
    → waiting_of kind new.waiting ≡ waiting_of kind old.waiting + one_of kind happening
begun kind old happening new step =
    let line : Said = record { happening = happening; more = 0 } in
    let joined = sum_by-append (stands_for kind) old.waiting (line ∷ []) in
    let one = sum_by-cons (stands_for kind) line [] in
    let alone : stands_for kind line ≡ one_of kind happening = refl in
    let waits : waiting_of kind new.waiting ≡ waiting_of kind (old.waiting ++ line ∷ []) = ap (waiting_of kind) step.waiting in
    omega (arith, joined, one, alone, waits)

-- one more of a line stands for one more, whether it is of the kind or not
one_more_by : (test : Bool) (more : ℕ) → cond test (1 + more) 0 < 2 ^ 64 - 1
    → cond test (1 + min (more + 1) (2 ^ 64 - 1)) 0 ≡ cond test (1 + more) 0 + cond test 1 0
one_more_by true more small = omega arith
one_more_by false more small = refl

-- one more of a line stands for one more, as far as 64 bits count
stands_for_more : (kind : Kind) (line : Said) (happening : Happening) → kind_in line ≡ kind_of happening
    → stands_for kind line < 2 ^ 64 - 1 → stands_for kind (with_one_more line) ≡ stands_for kind line + one_of kind happening
stands_for_more kind line happening same small = rw (← same) (one_more_by (same_kind kind (kind_in line)) line.more small)

-- a line among those that wait stands for no more than all
stands_for-le : (kind : Kind) (lines : List Said) (place : ℕ) → place < length lines → stands_for kind (get_or lines place no_line) ≤ waiting_of kind lines
stands_for-le kind lines place within = omega (arith, sum_by-remove (stands_for kind) lines place no_line within)

-- one more of a line that waits
counted : (kind : Kind) (old : LogView) (happening : Happening) (new : LogView) → CountsOneMore old happening new
    → waiting_of kind old.waiting < 2 ^ 64 - 1 → waiting_of kind new.waiting ≡ waiting_of kind old.waiting + one_of kind happening
counted kind old happening new step small =
    let within : step.place < length old.waiting = slice_get_within old.waiting step.place step.line step.there in
    let read : get_or old.waiting step.place no_line ≡ step.line = get_or_from_slice_get old.waiting step.place step.line no_line step.there in
    let least : stands_for kind step.line ≤ waiting_of kind old.waiting = rw read at (stands_for-le kind old.waiting step.place within) in
    let more = stands_for_more kind step.line happening step.of_kind (omega arith) in
    let written = sum_by-set (stands_for kind) old.waiting step.place (with_one_more step.line) no_line within in
    let all : waiting_of kind new.waiting + stands_for kind step.line ≡ waiting_of kind old.waiting + stands_for kind (with_one_more step.line) =
    rw (step.waiting) (rw read at written) in
    omega (arith, all, more)

-- what is noted waits
noted_waits : (kind : Kind) (old : LogView) (happening : Happening) (new : LogView) → Notes old happening new
    → waiting_of kind old.waiting < 2 ^ 64 - 1 → waiting_of kind new.waiting ≡ waiting_of kind old.waiting + one_of kind happening
noted_waits kind old happening new (inl step) small = begun kind old happening new step
noted_waits kind old happening new (inr step) small = counted kind old happening new step small

-- what is said waits no longer
said_left : (kind : Kind) (old : LogView) (now : ℕ) (line : Said) (new : LogView) → Says old now line new
    → waiting_of kind old.waiting ≡ waiting_of kind new.waiting + stands_for kind line
said_left kind old now line new step =
    let within : step.place < length old.waiting = slice_get_within old.waiting step.place line step.there in
    let read : get_or old.waiting step.place no_line ≡ line = get_or_from_slice_get old.waiting step.place line no_line step.there in
    let all = sum_by-remove (stands_for kind) old.waiting step.place no_line within in
    rw step.left (sym (rw read at all))

-- whether it is of the kind or not
parted_by : (test : Bool) (more : ℕ) → cond test (1 + more) 0 ≡ cond test 1 0 + cond test more 0
parted_by true more = refl
parted_by false more = refl

-- a line that is said counts for itself and for what it counts
stands_for_told : (kind : Kind) (line : Said) (now : ℕ) → stands_for kind line
    ≡ cond (same_kind kind (kind_in line)) 1 0 + more_in kind (record { line = line; at = now })
stands_for_told kind line now = parted_by (same_kind kind (kind_in line)) line.more

-- a happening is one at most
at_most_one : (test : Bool) → cond test 1 0 ≤ 1
at_most_one true = omega arith
at_most_one false = omega arith

-- of each kind, what waits and what is noted is what is said, what that counts, and what waits then
pub kept_count : (kind : Kind) (steps : List Step) (old new : LogView) → IsRun old steps new → waiting_of kind old.waiting + length steps < 2 ^ 64
    → noted_of kind steps + waiting_of kind old.waiting ≡ lines_of kind (told_in steps) + more_of kind (told_in steps) + waiting_of kind new.waiting
kept_count kind [] old new same small = let e : waiting_of kind new.waiting ≡ waiting_of kind old.waiting = ap (λ (log : LogView). waiting_of kind log.waiting) same in omega (arith, e)
kept_count kind (Noted happening ∷ steps) old new (next, step, run) small =
    let waits = noted_waits kind old happening next step (omega arith) in
    let one : one_of kind happening ≤ 1 = at_most_one (same_kind kind (kind_of happening)) in
    let rest = kept_count kind steps next new run (omega (arith, waits, one)) in
    omega (arith, waits, rest, sum_by-cons (λ s. cond (notes_kind kind s) 1 0) (Noted happening) steps)
kept_count kind (Taken now None ∷ steps) old new (next, step, run) small =
    let same : waiting_of kind next.waiting ≡ waiting_of kind old.waiting = ap (λ (log : LogView). waiting_of kind log.waiting) step.same in
    let rest = kept_count kind steps next new run (omega (arith, same)) in
    omega (arith, same, rest, sum_by-cons (λ s. cond (notes_kind kind s) 1 0) (Taken now None) steps)
kept_count kind (Taken now (Some line) ∷ steps) old new (next, step, run) small =
    let left = said_left kind old now line next step in
    let rest = kept_count kind steps next new run (omega (arith, left)) in
    let told : Told = record { line = line; at = now } in
    omega (
      arith,
      left,
      rest,
      stands_for_told kind line now,
      sum_by-cons (λ s. cond (notes_kind kind s) 1 0) (Taken now (Some line)) steps,
      sum_by-cons (λ (t : Told). cond (same_kind kind (kind_in t.line)) 1 0) told (told_in steps),
      sum_by-cons (more_in kind) told (told_in steps),
    )

-- a call keeps what holds of each log
step_keeps : (old : LogView) (step : Step) (new : LogView) → IsLog old → IsStep old step new → IsLog new
step_keeps old (Noted happening) new log (inl step) = record {
  one_each = rw step.waiting (one_more_kind old.waiting (record { happening = happening; more = 0 }) log.one_each step.none);
  counted = rw step.same log.counted;
}
step_keeps old (Noted happening) new log (inr step) =
    let within : step.place < length old.waiting = slice_get_within old.waiting step.place step.line step.there in
    record {
      one_each = rw step.waiting (one_each_kept old.waiting step.place (with_one_more step.line) within
          (λ d. ap kind_in (sym (get_or_from_slice_get old.waiting step.place step.line d step.there))) log.one_each);
      counted = rw step.same log.counted;
    }
step_keeps old (Taken now None) new log step = rw step.same log
step_keeps old (Taken now (Some line)) new log step = record {
  one_each = rw step.left (one_each_left old.waiting step.place (slice_get_within old.waiting step.place line step.there) log.one_each);
  counted = rw step.said (length-set old.said _ _ ∙ log.counted);
}

-- and so do calls in a row
pub run_keeps : (steps : List Step) (old new : LogView) → IsLog old → IsRun old steps new → IsLog new
run_keeps [] old new log same = rw same log
run_keeps (step ∷ steps) old new log (next, first, run) = run_keeps steps next new (step_keeps old step next log first) run

-- a new log is one
pub is_new_log : IsLog new_log
is_new_log = record { one_each = λ i j d i<j j<n. absurd (omega arith); counted = refl }
