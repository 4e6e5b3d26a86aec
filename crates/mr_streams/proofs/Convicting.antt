-- Nothing stores a set's value once the set was answered with STORED, where each value is that of one set.
use Rattle.std.proofs.Common.{◌≡◌, ℕ, suc, ◌+◌, ◌≤◌, ◌&&◌, ◌⊎◌, inl, inr, Bool, true, false, ℤ, All, get_or, List, [], ◌∷◌, refl, ap, ◌∙◌, subst, arith}
use Rattle.std.specs.Prelude.{take, bytes_eq}
use Rattle.std.specs.List.{sum_by}
use Rattle.std.proofs.lemmas.Bool.{cases_lt}
use Rattle.std.proofs.lemmas.List.{take-take}
use Rattle.std.proofs.lemmas.List.Sums.{sum_by-cons, sum_by-take-le, sum_by_more_le}
use Rattle.std.proofs.lemmas.Option.{get_or_from_slice_get}
use Rattle.mr_text.proofs.Keys.{and_true}
use Rattle.mr_text.proofs.Texts.{text_true, true_text}
use Rattle.mr_text.specs.declared.reply.Reply.TheVariants as replies
use Rattle.mr_text.specs.declared.request.Request.{Request}
use Rattle.mr_text.specs.declared.request.Request.TheVariants as request
use Rattle.mr_clock.specs.Readings.{Tick}
use Rattle.mr_history.specs.History.{IsIssued}
use Rattle.mr_history.specs.Places.{At}
use Rattle.mr_history.specs.declared.entry.Entry.{Entry}
use Rattle.mr_history.specs.declared.entry.Entry.TheVariants as entry
use Rattle.mr_history.specs.declared.op_id.OpId.{OpId}
use Rattle.mr_canary.specs.Views.{Names, ArePerformedOnce}
use Rattle.mr_world.proofs.Lists.{at_within}
use Rattle.mr_world.specs.Headline.{IsPlan}
use Rattle.mr_world.specs.Setup.{SetupView}
use Rattle.mr_world.specs.WorldView.{WorldView}
use Rattle.mr_world.specs.declared.setup.ProxySetup.{ProxySetup}
use Rattle.mr_streams.specs.Canary.{AreUnlike, SetsTo}
use Rattle.mr_streams.specs.Headline.{HasText, PremisesHold, Starts}
use Rattle.mr_streams.specs.Refines.{RefinesWorld}
use Rattle.mr_streams.specs.Steps.{StreamsRun}
use Rattle.mr_streams.specs.StreamsView.{StreamsView}
use Rattle.mr_streams.proofs.Acknowledging.{WorldLaws, set_stored}
use Rattle.mr_streams.proofs.Owing.{Picks, Owes, sets, issued, issued_at, stored, stored_at, one_if}
use Rattle.mr_streams.proofs.OwingEvents.{owes_run, owes_start}
use Rattle.mr_streams.proofs.Refining.{StreamLaws}
use Rattle.mr_streams.proofs.Safety.{begun_world, world_begins}
use Rattle.mr_streams.proofs.Starting.{starts_mirrored}

-- the sum up to a place, and what stands there or behind it
term_behind : {X : Type 0} (f : X → ℕ) (xs : List X) (cut place : ℕ) (x : X) → At xs place x → cut ≤ place → sum_by f (take cut xs) + f x ≤ sum_by f xs
term_behind f xs cut place x there after =
    let all = sum_by_more_le f xs place x (at_within there) in
    let one : f (get_or xs place x) ≡ f x = ap f (get_or_from_slice_get xs place x x there.gets) in
    let front = sum_by-take-le f (take place xs) cut in
    let same : sum_by f (take cut (take place xs)) ≡ sum_by f (take cut xs) = ap (λ l. sum_by f l) (take-take cut place xs after) in
    omega arith

one_or_none : (b : Bool) → (one_if b ≡ 0) ⊎ (b ≡ true)
one_or_none true = inr refl
one_or_none false = inl refl

-- an entry that counts issues a set of such a value
record IsCounted (is : Picks) (it : Entry) : Type 0 where
  op : OpId
  proxy : ℕ
  key : List ℕ
  flags : ℕ
  exptime : ℤ
  block : List ℕ
  noreply : Bool
  are : it ≡ entry.Issued op proxy (request.Set key flags exptime block noreply)
  picked : is key block ≡ true

counted_request : (is : Picks) (op : OpId) (proxy : ℕ) (asked : Request) → (sets is asked ≡ 0) ⊎ ((sets is asked ≡ 1) × IsCounted is (entry.Issued op proxy asked))
counted_request is op proxy (request.Get keys) = inl refl
counted_request is op proxy (request.Set key flags exptime block noreply) =
    elim (one_or_none (is key block)) [
      | inl none ↦ inl none
      | inr picked ↦ inr (
        ap one_if picked,
        record {
          op = op;
          proxy = proxy;
          key = key;
          flags = flags;
          exptime = exptime;
          block = block;
          noreply = noreply;
          are = refl;
          picked = picked;
        },
      )
    ]
counted_request is op proxy (request.Delete key noreply) = inl refl
counted_request is op proxy request.Quit = inl refl

counted_or_none : (is : Picks) (it : Entry) → (issued_at is it ≡ 0) ⊎ ((issued_at is it ≡ 1) × IsCounted is it)
counted_or_none is (entry.Issued op proxy asked) = counted_request is op proxy asked
counted_or_none is (entry.Stored by key flags block) = inl refl
counted_or_none is (entry.Removed op side key) = inl refl
counted_or_none is (entry.Answered op reply) = inl refl

-- no entry of these counts
none_counted : (is : Picks) (history : List Entry) → ((place : ℕ) (it : Entry) → At history place it → IsCounted is it → ⊥) → issued is history ≡ 0
none_counted is [] none = refl
none_counted is (it ∷ history) none =
    let sum = sum_by-cons (issued_at is) it history in
    let others = none_counted is history (λ place other there. none (suc place) other (record { gets = there.gets })) in
    elim (counted_or_none is it) [
      | inl first ↦ omega arith
      | inr counts ↦ absurd (none 0 it (record { gets = refl }) counts.1)
    ]

-- at most one entry counts
one_counted : (is : Picks) (history : List Entry)
    → ((i j : ℕ) (it other : Entry) → At history i it → At history j other → IsCounted is it → IsCounted is other → i ≡ j) → issued is history ≤ 1
one_counted is [] single = omega arith
one_counted is (it ∷ history) single =
    let sum = sum_by-cons (issued_at is) it history in
    elim (counted_or_none is it) [
      | inl first ↦ (
          let others = one_counted is history (λ i j a b at_i at_j x y. (
          let same : suc i ≡ suc j = single (suc i) (suc j) a b (record { gets = at_i.gets }) (record { gets = at_j.gets }) x y in
          omega arith)) in
          omega arith)
      | inr counts ↦ (
          let others = none_counted is history (λ place other there x. (
          let same : 0 ≡ suc place = single 0 (suc place) it other (record { gets = refl }) (record { gets = there.gets }) counts.1 x in
          omega arith)) in
          let one = counts.0 in
          omega arith)
    ]

-- the value of a key
abbrev pub value_of : Names → ℕ → ℕ → Picks
value_of names key value = λ k b. bytes_eq k (names.key key) && bytes_eq b (names.block key value)

pub picks_value : (names : Names) (key value : ℕ) → value_of names key value (names.key key) (names.block key value) ≡ true
picks_value names key value =
    ap (λ x. x && bytes_eq (names.block key value) (names.block key value)) (true_text (names.key key) (names.key key) refl)
    ∙ true_text (names.block key value) (names.block key value) refl

counted_sets : (names : Names) (history : List Entry) (key value place : ℕ) (it : Entry) → At history place it → IsCounted (value_of names key value) it → SetsTo names history key value place
counted_sets names history key value place it there c =
    let both = and_true (bytes_eq c.key (names.key key)) (bytes_eq c.block (names.block key value)) c.picked in
    let key_is : c.key ≡ names.key key = text_true c.key (names.key key) both.0 in
    let block_is : c.block ≡ names.block key value = text_true c.block (names.block key value) both.1 in
    record {
      set = c.op;
      flags = c.flags;
      exptime = c.exptime;
      noreply = c.noreply;
      issued = record {
        proxy = c.proxy;
        there = subst (λ x. At history place x) (c.are
            ∙ ap (λ k. entry.Issued c.op c.proxy (request.Set k c.flags c.exptime c.block c.noreply)) key_is
            ∙ ap (λ b. entry.Issued c.op c.proxy (request.Set (names.key key) c.flags c.exptime b c.noreply)) block_is) there;
      };
    }

-- What is known of a history: of each value no more is stored than was at the beginning and is issued, and a set that was answered with STORED
-- was stored before that.
pub record StoresInTime (first : List Entry) (history : List Entry) : Type 0 where
  pub few : (is : Picks) → stored is history ≤ stored is first + issued is history
  pub early : (is : Picks) (op : OpId) (key : List ℕ) (flags : ℕ) (exptime : ℤ) (block : List ℕ) (noreply : Bool) (issue done : ℕ) → is key block ≡ true
      → IsIssued history op (request.Set key flags exptime block noreply) issue → At history done (entry.Answered op replies.Stored)
      → stored is first + 1 ≤ stored is (take done history)

-- so each set is performed at most once, and before it is answered
pub performed_once : (names : Names) (first history : List Entry) → StoresInTime first history → AreUnlike names history → ArePerformedOnce names history
performed_once names first history h unlike = record {
  before = λ key value set flags exptime noreply issue done is_issued is_answered by flags' place there. (
      let is : Picks = value_of names key value in
      let picked : is (names.key key) (names.block key value) ≡ true = picks_value names key value in
      let early = h.early is set (names.key key) flags exptime (names.block key value) noreply issue done picked is_issued is_answered in
      let few = h.few is in
      let one = one_counted is history (λ i j a b at_i at_j x y.
      unlike key value i j (counted_sets names history key value i a at_i x) (counted_sets names history key value j b at_j y)) in
      elim (cases_lt place done) [
        | inl before ↦ before
        | inr after ↦ absurd (
            let behind = term_behind (stored_at is) history done place (entry.Stored by (names.key key) flags' (names.block key value)) there after in
            let counts : one_if (is (names.key key) (names.block key value)) ≡ 1 = ap one_if picked in
            omega arith)
      ]);
}

-- so it is of each history of streams
pub stores_in_time : StreamLaws → WorldLaws → RefinesWorld → (setup : SetupView) (first last : StreamsView) (ticks : List Tick)
    → All (λ (proxy : ProxySetup). IsPlan proxy.routing proxy.schedule) setup.proxies → All HasText setup.held
    → Starts setup first → StreamsRun first ticks last → PremisesHold setup ticks → StoresInTime first.history last.history
stores_in_time laws world refines setup first last ticks plans texts starts run premises =
    let start : WorldView = begun_world setup in
    let mirrored = starts_mirrored setup first start plans texts starts (world_begins setup premises.same premises.new_empty) in
    record {
      few = λ is. (
          let owes : Owes is (stored is first.history) last = owes_run laws is (stored is first.history) start first ticks last mirrored (owes_start is setup first starts) run in
          let within = owes.within in
          omega arith);
      early = λ is op key flags exptime block noreply issue done picked asked answered.
          set_stored world refines is setup first last ticks plans texts starts run premises op key flags exptime block noreply issue done picked asked answered;
    }
