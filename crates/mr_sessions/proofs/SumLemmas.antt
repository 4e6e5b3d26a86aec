-- What the requests of a session add up to.
use Rattle.std.proofs.Common.{◌≡◌, ◌∙◌, ℕ, ◌+◌, ◌≤◌, List, [], ◌∷◌, ◌++◌, length, Bool, true, false, cond, Result, Ok, Err, refl, sym, ap, subst, inl, inr, arith, length-append}
use Rattle.std.proofs.lemmas.List.Sums.{sum_by_push}
use Rattle.mr_text.specs.Source.{SourceView}
use Rattle.mr_node.specs.Output.{Exchange}
use Rattle.mr_node.specs.Output.Exchange.{Asked, Unknown}
use Rattle.mr_node.specs.Session.{Station, Performs, DoesExchange, SessionServes}
use Rattle.mr_node.specs.declared.ended.Ended.{Ended}
use Rattle.mr_proxy.specs.Answer.{AnswerView}
use Rattle.mr_proxy.specs.declared.sheet.LegSheet.{LegSheet}
use Rattle.mr_desks.specs.Carriers.{CarriersView}
use Rattle.mr_desks.specs.Issuing.{ClockRelation}
use Rattle.mr_desks.specs.Recorded.{Gave}
use Rattle.mr_desks.specs.declared.error.WorkerError.{WorkerError}
use Rattle.mr_desks.specs.declared.error.WorkerError.TheVariants.{LinkBroken, Mismatch, BookDiffers, ReadFault, WriteFault, TurnsSpent, OutOfMemory, NoThread}
use Rattle.mr_sessions.specs.Account.{Account, IsLeftUnanswered, AreCarried, kept_with}
use Rattle.mr_sessions.specs.Asking.{AsksDesk, desk_rules}
use Rattle.mr_sessions.specs.Own.{IssuedView}
use Rattle.mr_sessions.proofs.CarryLemmas.{rises, one_rises}
use Rattle.mr_sessions.proofs.OwnLemmas.{some_legs}
use Rattle.mr_sessions.specs.ClientSession.{ClientSessionIs, FewAreGivenUp, unanswered_count, given_up_count, is_given_up}

-- Each request has its answer, where answers are kept, but for so many; and no more were given up than legs were lost or came
-- back since the carriers told this.
pub record AddsUp (recorded : Bool) (first : CarriersView) (missing : ℕ) (now : Account) : Type 0 where
  pub share : recorded ≡ true → now.share ≡ length now.answers + missing
  pub no_book : recorded ≡ false → now.answers ≡ []
  pub given_up : FewAreGivenUp now.answers first now.carriers

pub adds_up_first : (recorded : Bool) (now : Account) → now.share ≡ 0 → now.answers ≡ [] → AddsUp recorded now.carriers 0 now
adds_up_first recorded now share answers = record {
  share = λ e. share ∙ sym (ap (λ (l : List AnswerView). length l + 0) answers);
  no_book = λ e. answers;
  given_up = (let none = ap given_up_count answers in omega arith);
}

count_one : (answers : List AnswerView) (answer : AnswerView) → given_up_count (answers ++ answer ∷ []) ≤ given_up_count answers + 1
count_one answers answer =
    let push = sum_by_push (λ (a : AnswerView). cond (is_given_up a) 1 0) answers answer in
    elim answer.given_up as (λ b. given_up_count (answers ++ answer ∷ []) ≡ given_up_count answers + cond b 1 0 → given_up_count (answers ++ answer ∷ []) ≤ given_up_count answers + 1) [
      | true ↦ λ e. omega (arith, e)
      | false ↦ λ e. omega (arith, e)
    ] push

count_none : (answers : List AnswerView) (answer : AnswerView) → answer.given_up ≡ false
    → given_up_count (answers ++ answer ∷ []) ≡ given_up_count answers
count_none answers answer up =
    let push : given_up_count (answers ++ answer ∷ []) ≡ given_up_count answers + 0 =
    sum_by_push (λ (a : AnswerView). cond (is_given_up a) 1 0) answers answer ∙ ap (λ (b : Bool). given_up_count answers + cond b 1 0) up in
    omega (arith, push)

-- one more answer
adds_one : (recorded : Bool) (first : CarriersView) (legs : List LegSheet) (old new : Account) (answer : AnswerView) → AddsUp recorded first 0 old
    → 1 ≤ length legs → new.share ≡ old.share + 1 → new.answers ≡ kept_with recorded old.answers answer
    → AreCarried recorded legs answer.given_up old.carriers new.carriers → AddsUp recorded first 0 new
adds_one true first legs old new answer sum some counted kept carried =
    let before = sum.share refl in
    let longer = ap (λ (l : List AnswerView). length l) kept in
    record {
      share = λ e. omega (arith, before, counted, longer, length-append old.answers (answer ∷ []));
      no_book = λ e. cc;
      given_up = more answer.given_up refl;
    }
  where
    more : (b : Bool) → answer.given_up ≡ b → FewAreGivenUp new.answers first new.carriers
    more true up =
        let few = count_one old.answers answer in
        let same = ap given_up_count kept in
        let before = sum.given_up in
        let rose = one_rises true legs old.carriers new.carriers some (subst (λ (b : Bool). AreCarried true legs b old.carriers new.carriers) up carried) in
        omega (arith, few, same, before, rose)
    more false up =
        let few = count_none old.answers answer up in
        let same = ap given_up_count kept in
        let before = sum.given_up in
        let rose = rises true legs answer.given_up old.carriers new.carriers carried in
        let lost = rose.lost in
        let came = rose.came in
        omega (arith, few, same, before, lost, came)
adds_one false first legs old new answer sum some counted kept carried =
    record {
      share = λ e. cc;
      no_book = λ e. kept ∙ sum.no_book refl;
      given_up =
          (let same = ap given_up_count kept in
          let before = sum.given_up in
          let rose = rises false legs answer.given_up old.carriers new.carriers carried in
          let lost = rose.lost in
          let came = rose.came in
          omega (arith, same, before, lost, came));
    }

-- one more request without an answer
adds_none : (gave : Gave) (recorded : Bool) (first : CarriersView) (issued : IssuedView) (old new : Account) → AddsUp recorded first 0 old
    → IsLeftUnanswered gave recorded issued old new → AddsUp recorded first 1 new
adds_none gave recorded first issued old new sum is =
    let same = ap given_up_count is.kept in
    let longer = ap (λ (l : List AnswerView). length l) is.kept in
    let counted = is.counted in
    let before = sum.given_up in
    let rose = rises recorded issued.legs is.given_up old.carriers new.carriers is.carried in
    let lost = rose.lost in
    let came = rose.came in
    record {
      share = λ e. (let share = sum.share e in omega (arith, share, counted, longer));
      no_book = λ e. is.kept ∙ sum.no_book e;
      given_up = omega (arith, same, before, lost, came);
    }

module _ {K : Type 0} (reads : ClockRelation K) (failures : K → ℕ) (gave : Gave) (recorded : Bool) (first : CarriersView) where
  adds_exchange : (old new : Station K Account) (exchange : Exchange) → DoesExchange (AsksDesk reads failures gave recorded) old exchange new
      → AddsUp recorded first 0 old.node → AddsUp recorded first 0 new.node
  adds_exchange old new (Asked request outcome) (inl is) sum =
      let one = is.answered in
      adds_one recorded first is.legs old.node new.node is.answer sum (some_legs _ _ one.own) one.counted one.kept one.carried
  adds_exchange old new (Asked request outcome) (inr is) sum = subst (AddsUp recorded first 0) (sym is.unchanged) sum
  adds_exchange old new Unknown is sum = subst (AddsUp recorded first 0) (sym is.1) sum

  adds_all : (old new : Station K Account) (exchanges : List Exchange) → Performs (AsksDesk reads failures gave recorded) old exchanges new
      → AddsUp recorded first 0 old.node → AddsUp recorded first 0 new.node
  adds_all old new exchanges Performs.begins sum = sum
  adds_all old new exchanges (Performs.performs {between} exchange so does answers) sum =
      adds_exchange between new exchange does (adds_all old between _ so sum)

  serves_sum : (reader reader' : SourceView) (old new : Station K Account) (rest : List ℕ)
      → SessionServes (AsksDesk reads failures gave recorded) reader reader' old new rest
      → AddsUp recorded first 0 old.node → AddsUp recorded first 0 new.node
  serves_sum reader reader' old new rest so sum = adds_all old new so.exchanges so.performs sum

  -- what the whole session adds up to
  pub session_sum : (reader reader' : SourceView) (old new : Station K Account) (result : Result Ended WorkerError)
      → ClientSessionIs (desk_rules reads failures gave recorded) reader reader' old new result
      → AddsUp recorded first 0 old.node → AddsUp recorded first (unanswered_count result) new.node
  session_sum reader reader' old new (Ok how) is sum =
      subst (AddsUp recorded first 0) (sym is.6) (serves_sum reader reader' old is.2 is.0 is.3 sum)
  session_sum reader reader' old new (Err ReadFault) is sum = serves_sum reader reader' old new is.0 is.1 sum
  session_sum reader reader' old new (Err TurnsSpent) is sum = serves_sum reader reader' old new is.0 is.1 sum
  session_sum reader reader' old new (Err OutOfMemory) (inl none) sum =
      subst (AddsUp recorded first 0) (sym (ap (λ (s : Station K Account). s.node) none.idle)) sum
  session_sum reader reader' old new (Err OutOfMemory) (inr stop) sum = serves_sum reader reader' old new stop.rest stop.serves sum
  session_sum reader reader' old new (Err WriteFault) (rest, between, so, inl next) sum =
      adds_exchange between new next.0 next.5 (serves_sum reader reader' old between rest so sum)
  session_sum reader reader' old new (Err WriteFault) (rest, between, so, inr next) sum =
      subst (AddsUp recorded first 0) (sym next.4) (serves_sum reader reader' old between rest so sum)
  session_sum reader reader' old new (Err BookDiffers) is sum =
      adds_none gave recorded first _ is.1.node new.node (serves_sum reader reader' old is.1 is.0 is.2 sum) is.3.6.left
  session_sum reader reader' old new (Err LinkBroken) is sum = absurd is
  session_sum reader reader' old new (Err Mismatch) is sum = absurd is
  session_sum reader reader' old new (Err NoThread) is sum = absurd is
