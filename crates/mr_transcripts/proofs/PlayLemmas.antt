-- A play grows event by event.
use Rattle.std.proofs.Common.{◌≡◌, ℕ, suc, List, [], ◌∷◌, ◌++◌, length, take, slice_get, Option, Some, None, refl, sym, ap, ◌∙◌, subst, append-nil, append_assoc, arith}
use Rattle.mr_world.specs.Refusals.{refusal_of_event}
use Rattle.mr_world.specs.Setup.{SetupView, Begins}
use Rattle.mr_world.specs.Steps.{WorldStep, WorldRun}
use Rattle.mr_world.specs.WorldView.{WorldView}
use Rattle.mr_proxy.specs.declared.world_error.WorldError.{WorldError}
use Rattle.mr_world.specs.declared.event.Event.{Event}
use Rattle.mr_world.specs.declared.note.Note.{Note}
use Rattle.mr_shown.specs.Verdict.{JudgesSo}
use Rattle.mr_shown.specs.declared.verdict.KeptVerdict.{KeptVerdict}
use Rattle.mr_transcripts.specs.Play.{PlaysTo, IsPlay}
use Rattle.mr_transcripts.specs.Transcript.{IsWholePlay}
use Rattle.mr_transcripts.specs.declared.play.Stop.{Stop}

pub record IsUnderWay (setup : SetupView) (events : List Event) (notes : List Note) (left : List Event) (world : WorldView) : Type 0 where
  pub start : WorldView
  pub done : List Event
  pub begins : Begins setup start
  pub all : events ≡ done ++ left
  pub plays : PlaysTo start done notes world

pub play_begins : (setup : SetupView) (events : List Event) (world : WorldView) → Begins setup world → IsUnderWay setup events [] events world
play_begins setup events world begins = record { start = world; done = []; begins = begins; all = refl; plays = refl }

plays_more : (old middle new : WorldView) (events : List Event) (notes : List Note) (event : Event) (note : Note)
    → PlaysTo old events notes middle → refusal_of_event middle event ≡ None → WorldStep middle event note new
    → PlaysTo old (events ++ event ∷ []) (notes ++ note ∷ []) new
plays_more old middle new [] [] event note plays accepted step =
    (new, subst (λ w. refusal_of_event w event ≡ None) plays accepted, subst (λ w. WorldStep w event note new) plays step, refl)
plays_more old middle new [] (n ∷ ns) event note plays accepted step = absurd plays
plays_more old middle new (e ∷ es) [] event note plays accepted step = absurd plays
plays_more old middle new (e ∷ es) (n ∷ ns) event note (next, fine, first, rest) accepted step =
    (next, fine, first, plays_more next middle new es ns event note rest accepted step)

pub as_many : (old new : WorldView) (events : List Event) (notes : List Note) → PlaysTo old events notes new → length events ≡ length notes
as_many old new [] [] plays = refl
as_many old new [] (n ∷ ns) plays = absurd plays
as_many old new (e ∷ es) [] plays = absurd plays
as_many old new (e ∷ es) (n ∷ ns) (next, fine, first, rest) = ap suc (as_many next new es ns rest)

pub play_goes_on : (setup : SetupView) (events : List Event) (notes : List Note) (event : Event) (left : List Event) (world next : WorldView) (note : Note)
    → IsUnderWay setup events notes (event ∷ left) world → refusal_of_event world event ≡ None → WorldStep world event note next
    → IsUnderWay setup events (notes ++ note ∷ []) left next
play_goes_on setup events notes event left world next note p accepted step = record {
  start = p.start;
  done = p.done ++ event ∷ [];
  begins = p.begins;
  all = p.all ∙ sym (append_assoc p.done (event ∷ []) left);
  plays = plays_more p.start world next p.done notes event note p.plays accepted step;
}

take_front : (front back : List Event) (n : ℕ) → length front ≡ n → take n (front ++ back) ≡ front
take_front [] back n e = subst (λ k. take k back ≡ []) e refl
take_front (event ∷ front) back n e =
    subst (λ k. take k (event ∷ front ++ back) ≡ event ∷ front) e (ap (event ∷◌) (take_front front back (length front) refl))

next_of : (front : List Event) (event : Event) (back : List Event) → slice_get (front ++ event ∷ back) (length front) ≡ Some event
next_of [] event back = refl
next_of (first ∷ front) event back = next_of front event back

pub play_ends : (setup : SetupView) (events : List Event) (notes : List Note) (left : List Event) (world : WorldView) → length left ≡ 0
    → IsUnderWay setup events notes left world → IsPlay setup events notes world None
play_ends setup events notes [] world ended p =
    let counted = as_many p.start world p.done notes p.plays in
    record {
      start = p.start;
      begins = p.begins;
      plays = subst (λ es. PlaysTo p.start es notes world) (sym (ap (take (length notes)) p.all ∙ take_front p.done [] (length notes) counted)) p.plays;
      stops = sym (ap length p.all ∙ ap length (append-nil p.done) ∙ counted);
    }
play_ends setup events notes (event ∷ left) world ended p = absurd (omega arith)

pub play_stops : (setup : SetupView) (events : List Event) (notes : List Note) (event : Event) (left : List Event) (world : WorldView) (index : ℕ) (refusal : WorldError)
    → IsUnderWay setup events notes (event ∷ left) world → index ≡ length notes → refusal_of_event world event ≡ Some refusal
    → IsPlay setup events notes world (Some (record { index = index; refusal = refusal }))
play_stops setup events notes event left world index refusal p is refused =
    let counted = as_many p.start world p.done notes p.plays in
    record {
      start = p.start;
      begins = p.begins;
      plays = subst (λ es. PlaysTo p.start es notes world) (sym (ap (take (length notes)) p.all ∙ take_front p.done (event ∷ left) (length notes) counted)) p.plays;
      stops =
          (is, (event, subst (λ n. slice_get events n ≡ Some event) counted (subst (λ es. slice_get es (length p.done) ≡ Some event) (sym p.all) (next_of p.done event left)), refused));
    }

-- what is played is a run
pub plays_run : (old new : WorldView) (events : List Event) (notes : List Note) → PlaysTo old events notes new → WorldRun old events new
plays_run old new [] [] plays = plays
plays_run old new [] (n ∷ ns) plays = absurd plays
plays_run old new (e ∷ es) [] plays = absurd plays
plays_run old new (e ∷ es) (n ∷ ns) (next, fine, first, rest) = (next, n, first, plays_run next new es ns rest)

pub whole_play : (setup : SetupView) (events : List Event) (notes : List Note) (world : WorldView) (verdict : KeptVerdict) (stop : Option Stop)
    → IsPlay setup events notes world stop → stop ≡ None → JudgesSo world.history verdict → IsWholePlay setup events notes world verdict
whole_play setup events notes world verdict stop play ended judged =
    record { play = subst (IsPlay setup events notes world) ended play; judges = judged }
