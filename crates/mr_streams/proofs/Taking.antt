-- What bytes that come over a link do, whichever way they end.
use Rattle.std.proofs.Common.{◌≡◌, ℕ, inl, inr, false, List, [], ◌∷◌, ◌++◌, refl, sym, ap, ◌∙◌, subst}
use Rattle.mr_text.specs.declared.error.TextError.{TextError}
use Rattle.mr_history.specs.Places.{At}
use Rattle.mr_proxy.specs.declared.step.Step.TheVariants.{GiveUp}
use Rattle.mr_loop.specs.Events.{FrontView, after_all, after_event}
use Rattle.mr_loop.specs.Returning.{TakesAll, HasTaken, TakesWhole, TakesSome, BreaksAtComplaint, BreaksAtOnce, TakesBytes, Breaks, IsSurplus, IsMismatch, IsRefused, give_ups, giving_up, takings, standing}
use Rattle.mr_loop.specs.Links.{legs_of}
use Rattle.std.proofs.lemmas.List.{append-nil}
use Rattle.mr_loop.specs.declared.link.Link.{Link}
use Rattle.mr_loop.specs.declared.link.LinkEnd.{LinkEnd}
use Rattle.mr_loop.specs.declared.link.LinkEnd.TheVariants.{Whole, Surplus, Mismatch, Complaint, Refused, Down}
use Rattle.mr_loop.specs.declared.sent_legs.SentLeg.{SentLeg}
use Rattle.mr_world.specs.WorldView.{WorldView}
use Rattle.mr_world.specs.declared.message.Message.{Message}
use Rattle.mr_world.specs.declared.message.Delivery.{Delivery}
use Rattle.mr_streams.specs.Flows.{AreOf}
use Rattle.mr_streams.specs.OneLink.{Awaits, BytesTaken}
use Rattle.mr_streams.specs.OneProxy.{FrontRuns}
use Rattle.mr_streams.proofs.Fronts.{front_stays, front_to, front_on, front_does}
use Rattle.mr_streams.proofs.Returning.{returns_run}
use Rattle.mr_streams.proofs.Runs.{stands, gives_up}
use Rattle.mr_streams.proofs.Spellings.{ReplyLaws}

pub own_both : (number : ℕ) (a b : List SentLeg) → AreOf number a → AreOf number b → AreOf number (a ++ b)
own_both number [] b h k = k
own_both number (sent ∷ a) b h k = (h.0, own_both number a b h.1 k)

pub own_left : (number : ℕ) (a b : List SentLeg) → AreOf number (a ++ b) → AreOf number a
own_left number [] b h = tt
own_left number (sent ∷ a) b h = (h.0, own_left number a b h.1)

pub own_right : (number : ℕ) (a b : List SentLeg) → AreOf number (a ++ b) → AreOf number b
own_right number [] b h = h
own_right number (sent ∷ a) b h = own_right number a b h.1

-- the requests of legs are given up, one after the other
pub give_ups_run : (legs : List SentLeg) (w : WorldView) (number : ℕ) (front : FrontView) → At w.proxies number front.core → AreOf number legs
    → FrontRuns w number front (after_all (give_ups legs) front)
give_ups_run [] w number front there own = front_stays w number front there
give_ups_run (sent ∷ legs) w number front there own =
    let front' : FrontView = after_event (giving_up sent) front in
    let first : FrontRuns w number front front' = front_does w number front sent.client (GiveUp sent.leg.id.op) tt (gives_up w number front.core sent.leg.id.op there own.0.0) in
    front_on w number front front' (after_all (give_ups legs) front') first
    (give_ups_run legs first.so.world number front' (stands w number front.core front'.core first.so there) own.1)

-- a link breaks
pub breaks_run : (now : ℕ) (link link' : Link) (front front' : FrontView) (w : WorldView) (number : ℕ) → At w.proxies number front.core → AreOf number link.legs
    → Breaks now link front link' front' → FrontRuns w number front front'
breaks_run now link link' front front' w number there own b =
    front_to w number front (after_all (give_ups link.legs) front) front' (sym b.given_up) (give_ups_run link.legs w number front there own)

breaks_down : (now : ℕ) (link link' : Link) (front front' : FrontView) → Breaks now link front link' front' → link'.is_up ≡ false
breaks_down now link link' front front' b = ap (λ (l : Link). l.is_up) b.down

breaks_own : (number now : ℕ) (link link' : Link) (front front' : FrontView) → Breaks now link front link' front' → AreOf number link'.legs
breaks_own number now link link' front front' b = subst (λ (l : Link). AreOf number l.legs) (sym b.down) tt

-- what some replies that were taken leave
pub record Took (messages : List Message) (deliveries : List Delivery) (w : WorldView) (number : ℕ) (front front' : FrontView) (left going : List SentLeg) (bytes : List ℕ) : Type 0 where
  pub run : FrontRuns w number front front'
  pub awaits : Awaits messages deliveries run.so.world number front'.core left going bytes

took : ReplyLaws → (messages : List Message) (deliveries : List Delivery) (w : WorldView) (number : ℕ) (front front' : FrontView) (bytes rest later : List ℕ) (legs left going : List SentLeg)
    → Awaits messages deliveries w number front.core legs going (bytes ++ later) → HasTaken bytes legs front rest left front'
    → Took messages deliveries w number front front' left going (rest ++ later)
took laws messages deliveries w number front front' bytes rest later legs left going a t =
    let own = subst (λ l. AreOf number l) a.splits a.own in
    let takes = subst (λ l. TakesAll l t.replies t.events left) a.splits t.takes in
    let is = returns_run laws messages deliveries t.replies a.returning going left t.events bytes rest later w number front a.sent a.replied a.there
    (own_left number a.returning going own) a.replies t.reads takes in
    let run = front_to w number front (after_all t.events front) front' (sym t.happens) is.run in
    record {
      run = run;
      awaits = record {
        returning = is.kept;
        splits = is.leaves;
        replies = is.flows;
        own = subst (λ l. AreOf number l) (sym is.leaves) (own_both number is.kept going is.own (own_right number a.returning going own));
        sent = run.so.sent ∙ a.sent;
        replied = run.so.replies ∙ a.replied;
        there = stands w number front.core front'.core run.so a.there;
      };
    }

whole_taken : ReplyLaws → (messages : List Message) (deliveries : List Delivery) (w : WorldView) (number now : ℕ) (piece later : List ℕ) (old new : Link) (front front' : FrontView) (going : List SentLeg)
    → Awaits messages deliveries w number front.core old.legs going ((old.reader.kept ++ piece) ++ later) → TakesWhole now piece old front new front'
    → BytesTaken messages deliveries w number front front' old new going later
whole_taken laws messages deliveries w number now piece later old new front front' going a t =
    let is = took laws messages deliveries w number front front' (old.reader.kept ++ piece) new.reader.kept later old.legs new.legs going a t.taken in
    record { run = is.run; left = inl (t.same_state, t.same_out, is.awaits) }

some_taken : ReplyLaws → (messages : List Message) (deliveries : List Delivery) (w : WorldView) (number now : ℕ) (piece later : List ℕ) (old new : Link) (front front' : FrontView) (going : List SentLeg)
    (Next : List ℕ → List SentLeg → Type 0)
    → Awaits messages deliveries w number front.core old.legs going ((old.reader.kept ++ piece) ++ later) → TakesSome now piece old front Next new front'
    → BytesTaken messages deliveries w number front front' old new going later
some_taken laws messages deliveries w number now piece later old new front front' going Next a t =
    let is = took laws messages deliveries w number front t.between (old.reader.kept ++ piece) t.rest later old.legs t.left going a t.taken in
    let broken = breaks_run now (standing t.left t.counts old) new t.between front' is.run.so.world number is.awaits.there is.awaits.own t.breaks in
    record {
      run = front_on w number front t.between front' is.run broken;
      left = inr (breaks_down now (standing t.left t.counts old) new t.between front' t.breaks, breaks_own number now (standing t.left t.counts old) new t.between front' t.breaks);
    }

nothing_more : (legs : List SentLeg) → TakesAll legs [] [] legs
nothing_more [] = (refl, refl)
nothing_more (sent ∷ legs) = (refl, refl)

complaint_taken : ReplyLaws → (messages : List Message) (deliveries : List Delivery) (w : WorldView) (number now : ℕ) (piece later : List ℕ) (old new : Link) (front front' : FrontView) (going : List SentLeg)
    → Awaits messages deliveries w number front.core old.legs going ((old.reader.kept ++ piece) ++ later) → BreaksAtComplaint now piece old front new front'
    → BytesTaken messages deliveries w number front front' old new going later
complaint_taken laws messages deliveries w number now piece later old new front front' going a t =
    let c = t.taken in
    let is = took laws messages deliveries w number front c.between (old.reader.kept ++ piece) c.rest later old.legs c.before going a c.taken in
    let one : HasTaken c.rest c.before c.between c.after t.left t.between =
    record {
      replies = c.reply ∷ [];
      events = takings c.sent.client (legs_of c.sent) c.said;
      reads = (c.after, c.next, refl);
      takes = subst (λ l. TakesAll l (c.reply ∷ []) (takings c.sent.client (legs_of c.sent) c.said) t.left) (sym c.first)
          (c.said, [], c.answers, sym (append-nil (takings c.sent.client (legs_of c.sent) c.said)), nothing_more t.left);
      happens = c.happens;
    } in
    let last = took laws messages deliveries is.run.so.world number c.between t.between c.rest c.after later c.before t.left going is.awaits one in
    let broken = breaks_run now (standing t.left t.counts old) new t.between front' last.run.so.world number last.awaits.there last.awaits.own t.breaks in
    record {
      run = front_on w number front c.between front' is.run (front_on is.run.so.world number c.between t.between front' last.run broken);
      left = inr (breaks_down now (standing t.left t.counts old) new t.between front' t.breaks, breaks_own number now (standing t.left t.counts old) new t.between front' t.breaks);
    }

at_once_taken : (messages : List Message) (deliveries : List Delivery) (w : WorldView) (number now : ℕ) (piece later bytes : List ℕ) (old new : Link) (front front' : FrontView) (going : List SentLeg) (refusal : TextError)
    → Awaits messages deliveries w number front.core old.legs going bytes → BreaksAtOnce now piece old front refusal new front'
    → BytesTaken messages deliveries w number front front' old new going later
at_once_taken messages deliveries w number now piece later bytes old new front front' going refusal a t =
    record { run = breaks_run now old new front front' w number a.there a.own t.breaks; left = inr (breaks_down now old new front front' t.breaks, breaks_own number now old new front front' t.breaks) }

-- whichever way the bytes end
pub bytes_taken : ReplyLaws → (messages : List Message) (deliveries : List Delivery) (w : WorldView) (number now : ℕ) (piece later : List ℕ) (end : LinkEnd) (old new : Link) (front front' : FrontView) (going : List SentLeg)
    → Awaits messages deliveries w number front.core old.legs going ((old.reader.kept ++ piece) ++ later) → TakesBytes now piece old front end new front'
    → BytesTaken messages deliveries w number front front' old new going later
bytes_taken laws messages deliveries w number now piece later Whole old new front front' going a t =
    whole_taken laws messages deliveries w number now piece later old new front front' going a t
bytes_taken laws messages deliveries w number now piece later Surplus old new front front' going a t =
    some_taken laws messages deliveries w number now piece later old new front front' going IsSurplus a t
bytes_taken laws messages deliveries w number now piece later Mismatch old new front front' going a t =
    some_taken laws messages deliveries w number now piece later old new front front' going IsMismatch a t
bytes_taken laws messages deliveries w number now piece later Complaint old new front front' going a t =
    complaint_taken laws messages deliveries w number now piece later old new front front' going a t
bytes_taken laws messages deliveries w number now piece later (Refused refusal) old new front front' going a t =
    elim t [
      | inl some ↦ some_taken laws messages deliveries w number now piece later old new front front' going (IsRefused refusal) a some
      | inr once ↦ at_once_taken messages deliveries w number now piece later ((old.reader.kept ++ piece) ++ later) old new front front' going refusal a once
    ]
bytes_taken laws messages deliveries w number now piece later Down old new front front' going a t =
    record {
      run = front_to w number front front front' (sym t.2) (front_stays w number front a.there);
      left = inr (ap (λ (l : Link). l.is_up) t.1 ∙ t.0, subst (λ (l : Link). AreOf number l.legs) (sym t.1) a.own);
    }
