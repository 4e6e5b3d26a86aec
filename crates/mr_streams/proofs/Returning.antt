-- Bytes that come over a link are replies that come back, each to its leg.
use Rattle.std.specs.List.{AllByRecursion}
use Rattle.std.proofs.Common.{◌≡◌, ℕ, inl, inr, List, [], ◌∷◌, ◌++◌, map, Option, Some, None, slice_set, refl, sym, ap, ◌∙◌, subst, append_assoc}
use Rattle.mr_text.specs.Canonical.{canonical_reply}
use Rattle.mr_text.specs.Replies.{SpellsReply}
use Rattle.mr_text.specs.declared.cause.Cause.{Cause}
use Rattle.mr_text.specs.declared.cause.Cause.TheVariants.{NodeRefused}
use Rattle.mr_text.specs.declared.item.Item.{Item}
use Rattle.mr_text.specs.declared.reply.Reply.{Reply}
use Rattle.mr_text.specs.declared.reply.Reply.TheVariants.{Items, Stored, Deleted, NotFound, Error, ClientError, ServerError}
use Rattle.mr_history.specs.Places.{At}
use Rattle.mr_join.specs.declared.leg_reply.LegReply.{LegReply}
use Rattle.mr_join.specs.declared.leg_reply.LegReply.TheVariants.{Failed}
use Rattle.mr_node.specs.declared.command.NodeCommand.{NodeCommand}
use Rattle.mr_node.specs.declared.command.NodeCommand.TheVariants.{Get, Set, Delete}
use Rattle.mr_proxy.specs.NodeReplies.{AnswersGets, IsAnswer, FindsItemOf, all_failed, dealt}
use Rattle.mr_proxy.specs.NodeRequests.{key_of}
use Rattle.mr_proxy.specs.ProxyView.{ProxyView}
use Rattle.mr_proxy.specs.Transitions.{after_take, taken_of}
use Rattle.mr_proxy.specs.declared.sheet.LegId.{LegId}
use Rattle.mr_proxy.specs.declared.sheet.LegSheet.{LegSheet}
use Rattle.mr_proxy.specs.declared.step.Step.{Step}
use Rattle.mr_proxy.specs.declared.step.Step.TheVariants.{Take}
use Rattle.mr_loop.specs.Events.{FrontView, Event, after_all, after_event}
use Rattle.mr_loop.specs.Links.{legs_of}
use Rattle.mr_loop.specs.Returning.{Answers, AnswersSent, Reads, TakesAll, taking, takings}
use Rattle.mr_loop.proofs.TakenLemmas.{after_both}
use Rattle.mr_loop.specs.declared.sent_legs.SentLeg.{SentLeg}
use Rattle.mr_world.specs.Steps.{answered_by, note_of}
use Rattle.mr_world.specs.WorldView.{WorldView}
use Rattle.mr_world.specs.declared.event.Event.TheVariants.{Return}
use Rattle.mr_world.specs.declared.message.Message.{Message}
use Rattle.mr_world.specs.declared.message.Delivery.{Delivery}
use Rattle.mr_streams.specs.Fleet.{FleetEvent}
use Rattle.mr_streams.specs.Flows.{AreReplies, WasAnswered, WereDelivered, IsError, AreOf, SheetsAreOf}
use Rattle.mr_streams.specs.OneProxy.{StepsSo, FrontRuns}
use Rattle.mr_streams.proofs.Fronts.{front_stays, front_to, front_on, front_does}
use Rattle.mr_streams.proofs.Runs.{stands, one_event, gains_taken, told_taken, kin_there, kin_taken}
use Rattle.mr_streams.proofs.Spellings.{ReplyLaws, first_reply, reply_has_bytes}

found_once : (key : List ℕ) (items : List Item) (a b : LegReply) → FindsItemOf key items a → FindsItemOf key items b → a ≡ b
found_once key [] a b h k = h ∙ sym k
found_once key (item ∷ []) a b h k = h.1 ∙ sym k.1
found_once key (item ∷ other ∷ items) a b h k = absurd h

-- a reply says one thing of a leg
pub answer_once : (command : NodeCommand) (reply : Reply) (a b : LegReply) → IsAnswer command reply a → IsAnswer command reply b → a ≡ b
answer_once (Get key) (Items items) a b h k = found_once key items a b h k
answer_once (Get key) Stored a b h k = absurd h
answer_once (Get key) Deleted a b h k = absurd h
answer_once (Get key) NotFound a b h k = absurd h
answer_once (Get key) Error a b h k = h ∙ sym k
answer_once (Get key) (ClientError cause) a b h k = h ∙ sym k
answer_once (Get key) (ServerError cause) a b h k = h ∙ sym k
answer_once (Set key flags exptime block) (Items items) a b h k = absurd h
answer_once (Set key flags exptime block) Stored a b h k = h ∙ sym k
answer_once (Set key flags exptime block) Deleted a b h k = absurd h
answer_once (Set key flags exptime block) NotFound a b h k = absurd h
answer_once (Set key flags exptime block) Error a b h k = h ∙ sym k
answer_once (Set key flags exptime block) (ClientError cause) a b h k = h ∙ sym k
answer_once (Set key flags exptime block) (ServerError cause) a b h k = h ∙ sym k
answer_once (Delete key) (Items items) a b h k = absurd h
answer_once (Delete key) Stored a b h k = absurd h
answer_once (Delete key) Deleted a b h k = h ∙ sym k
answer_once (Delete key) NotFound a b h k = h ∙ sym k
answer_once (Delete key) Error a b h k = h ∙ sym k
answer_once (Delete key) (ClientError cause) a b h k = h ∙ sym k
answer_once (Delete key) (ServerError cause) a b h k = h ∙ sym k

-- an error says that the leg failed
error_fails : (command : NodeCommand) (reply : Reply) (said : LegReply) → IsError reply → IsAnswer command reply said → (cause : Cause) × (said ≡ Failed cause)
error_fails command (Items items) said h k = absurd h
error_fails command Stored said h k = absurd h
error_fails command Deleted said h k = absurd h
error_fails command NotFound said h k = absurd h
error_fails (Get key) Error said h k = (NodeRefused, k)
error_fails (Set key flags exptime block) Error said h k = (NodeRefused, k)
error_fails (Delete key) Error said h k = (NodeRefused, k)
error_fails (Get key) (ClientError cause) said h k = (cause, k)
error_fails (Set key flags exptime block) (ClientError cause) said h k = (cause, k)
error_fails (Delete key) (ClientError cause) said h k = (cause, k)
error_fails (Get key) (ServerError cause) said h k = (cause, k)
error_fails (Set key flags exptime block) (ServerError cause) said h k = (cause, k)
error_fails (Delete key) (ServerError cause) said h k = (cause, k)

-- what a proxy takes of a leg
abbrev pub take_of : LegSheet → LegReply → Step
take_of sheet said = Take (record { sheet = sheet; reply = said })

-- the core of this proxy takes a reply of its leg
fails_one : (w : WorldView) (number : ℕ) (core : ProxyView) (sheet : LegSheet) (cause : Cause)
    → At w.proxies number core → sheet.id.op.proxy ≡ number → StepsSo w number core (take_of sheet (Failed cause))
fails_one w number core sheet cause there own =
    let id : LegId = sheet.id in
    let gains = answered_by (taken_of core id (Failed cause)) in
    let same : slice_set w.proxies number (after_take core id (Failed cause)) ≡ slice_set w.proxies id.op.proxy (after_take core id (Failed cause)) =
    ap (λ n. slice_set w.proxies n (after_take core id (Failed cause))) (sym own) in
    record {
      run = one_event w number (after_take core id (Failed cause)) gains (FleetEvent.LegFails id cause)
          (record {
            proxy = core;
            home = subst (λ n. At w.proxies n core) (sym own) there;
            becomes = ap (λ p. record w { proxies = p; history = w.history ++ gains }) same;
          })
          refl (gains_taken w.history (taken_of core id (Failed cause))) (kin_there w number core (after_take core id (Failed cause)) there (kin_taken core id (Failed cause)));
      gives = λ answer given wants. told_taken w.history (taken_of core id (Failed cause)) answer given wants;
    }

returns_one : (w : WorldView) (number : ℕ) (core : ProxyView) (message : Message) (reply_number from : ℕ) (said : LegReply)
    → At w.proxies number core → message.sheet.id.op.proxy ≡ number → At w.sent from message → At w.replies reply_number (record { message = from; reply = said })
    → StepsSo w number core (take_of message.sheet said)
returns_one w number core message reply_number from said there own sent came =
    let id : LegId = message.sheet.id in
    let gains = answered_by (taken_of core id said) in
    record {
      run = one_event w number (after_take core id said) gains (FleetEvent.Happens (Return reply_number)) (
        note_of (taken_of core id said),
        record {
          message = message;
          proxy = core;
          sender = number;
          from = from;
          reply = said;
          came = came;
          sent = sent;
          sends = sym own;
          home = there;
          tells = refl;
          becomes = refl;
        },
      )
          refl (gains_taken w.history (taken_of core id said)) (kin_there w number core (after_take core id said) there (kin_taken core id said));
      gives = λ answer given wants. told_taken w.history (taken_of core id said) answer given wants;
    }

some_once : {X : Type 0} (o : Option X) (a b : X) → o ≡ Some a → o ≡ Some b → a ≡ b
some_once None a b h k = cc
some_once (Some x) a b h k = cc

-- a reply says one thing of gets that travelled together
gets_once : (keys : List (List ℕ)) (reply : Reply) (a b : List LegReply) → AnswersGets keys reply a → AnswersGets keys reply b → a ≡ b
gets_once keys (Items items) a b h k = some_once (dealt keys items) a b h k
gets_once keys Stored a b h k = absurd h
gets_once keys Deleted a b h k = absurd h
gets_once keys NotFound a b h k = absurd h
gets_once keys Error a b h k = h ∙ sym k
gets_once keys (ClientError cause) a b h k = h ∙ sym k
gets_once keys (ServerError cause) a b h k = h ∙ sym k

-- and so it does of any legs
sent_once : (leg : LegSheet) (others : List LegSheet) (reply : Reply) (a b : List LegReply) → Answers leg others reply a → Answers leg others reply b → a ≡ b
sent_once leg [] reply a b h k = h.2 ∙ ap (λ x. x ∷ []) (answer_once leg.command reply h.0 k.0 h.1 k.1) ∙ sym k.2
sent_once leg (other ∷ others) reply a b h k = gets_once (map key_of (leg ∷ other ∷ others)) reply a b h k

-- each of these failed
abbrev pub AllFailed : List LegReply → Type 0
AllFailed said = AllByRecursion (λ (one : LegReply). (cause : Cause) × (one ≡ Failed cause)) said

failed_gets : (keys : List (List ℕ)) → AllFailed (map (λ _. Failed NodeRefused) keys)
failed_gets [] = tt
failed_gets (key ∷ keys) = ((NodeRefused, refl), failed_gets keys)

failed_keys : (cause : Cause) (keys : List (List ℕ)) → AllFailed (all_failed cause keys)
failed_keys cause [] = tt
failed_keys cause (key ∷ keys) = ((cause, refl), failed_gets keys)

errors_fail : (leg : LegSheet) (others : List LegSheet) (reply : Reply) (said : List LegReply) → IsError reply → Answers leg others reply said → AllFailed said
errors_fail leg [] reply said e h = subst AllFailed (sym h.2) (error_fails leg.command reply h.0 e h.1, tt)
errors_fail leg (other ∷ others) (Items items) said e h = absurd e
errors_fail leg (other ∷ others) Stored said e h = absurd e
errors_fail leg (other ∷ others) Deleted said e h = absurd e
errors_fail leg (other ∷ others) NotFound said e h = absurd e
errors_fail leg (other ∷ others) Error said e h = subst AllFailed (sym h) (failed_keys NodeRefused (map key_of (leg ∷ other ∷ others)))
errors_fail leg (other ∷ others) (ClientError cause) said e h = subst AllFailed (sym h) (failed_keys cause (map key_of (leg ∷ other ∷ others)))
errors_fail leg (other ∷ others) (ServerError cause) said e h = subst AllFailed (sym h) (failed_keys cause (map key_of (leg ∷ other ∷ others)))

-- of each leg a message was delivered, and this is what came back
takes_delivered : (messages : List Message) (deliveries : List Delivery) (w : WorldView) (number client : ℕ) (front : FrontView) (sheets : List LegSheet) (said : List LegReply)
    → w.sent ≡ messages → w.replies ≡ deliveries → At w.proxies number front.core → SheetsAreOf number sheets → WereDelivered messages deliveries sheets said
    → FrontRuns w number front (after_all (takings client sheets said) front)
takes_delivered messages deliveries w number client front [] said ws wr there own were = front_stays w number front there
takes_delivered messages deliveries w number client front (sheet ∷ sheets) [] ws wr there own were = front_stays w number front there
takes_delivered messages deliveries w number client front (sheet ∷ sheets) (one ∷ said) ws wr there own were =
    let d = were.0 in
    let step : StepsSo w number front.core (take_of sheet one) =
    subst (λ s. StepsSo w number front.core (take_of s one)) d.of_leg
    (returns_one w number front.core d.message d.number d.from one there (ap (λ s. s.id.op.proxy) d.of_leg ∙ own.0)
    (subst (λ m. At m d.from d.message) (sym ws) d.there) (subst (λ r. At r d.number (record { message = d.from; reply = one })) (sym wr) d.replied)) in
    let front' : FrontView = after_event (taking client sheet one) front in
    let first = front_does w number front client (take_of sheet one) tt step in
    let next = takes_delivered messages deliveries first.so.world number client front' sheets said (first.so.sent ∙ ws) (first.so.replies ∙ wr)
    (stands w number front.core front'.core first.so there) own.1 were.1 in
    front_on w number front front' (after_all (takings client sheets said) front') first next

-- each leg failed
takes_failed : (w : WorldView) (number client : ℕ) (front : FrontView) (sheets : List LegSheet) (said : List LegReply)
    → At w.proxies number front.core → SheetsAreOf number sheets → AllFailed said → FrontRuns w number front (after_all (takings client sheets said) front)
takes_failed w number client front [] said there own failed = front_stays w number front there
takes_failed w number client front (sheet ∷ sheets) [] there own failed = front_stays w number front there
takes_failed w number client front (sheet ∷ sheets) (one ∷ said) there own failed =
    let step : StepsSo w number front.core (take_of sheet one) =
    subst (λ r. StepsSo w number front.core (take_of sheet r)) (sym failed.0.1) (fails_one w number front.core sheet failed.0.0 there own.0) in
    let front' : FrontView = after_event (taking client sheet one) front in
    let first = front_does w number front client (take_of sheet one) tt step in
    let next = takes_failed first.so.world number client front' sheets said (stands w number front.core front'.core first.so there) own.1 failed.1 in
    front_on w number front front' (after_all (takings client sheets said) front') first next

-- legs that travelled together take what their reply says of them
pub takes_sent : (messages : List Message) (deliveries : List Delivery) (w : WorldView) (number : ℕ) (front : FrontView) (sent : SentLeg) (reply : Reply) (said : List LegReply)
    → w.sent ≡ messages → w.replies ≡ deliveries → At w.proxies number front.core → SheetsAreOf number (legs_of sent)
    → WasAnswered messages deliveries sent reply → AnswersSent sent reply said → FrontRuns w number front (after_all (takings sent.client (legs_of sent) said) front)
takes_sent messages deliveries w number front sent reply said ws wr there own was answers =
    elim was [
      | inl d ↦ takes_delivered messages deliveries w number sent.client front (legs_of sent) said ws wr there own
          (subst (λ s. WereDelivered messages deliveries (legs_of sent) s) (sent_once sent.leg sent.others reply d.said said d.answers answers) d.delivered)
      | inr e ↦ takes_failed w number sent.client front (legs_of sent) said there own (errors_fail sent.leg sent.others reply said e answers)
    ]

pub takes_none : (legs left : List SentLeg) (events : List Event) → TakesAll legs [] events left → (events ≡ []) × (left ≡ legs)
takes_none [] left events h = h
takes_none (sent ∷ legs) left events h = h

-- what is left when some replies were taken
pub record IsLeft (messages : List Message) (deliveries : List Delivery) (w : WorldView) (number : ℕ) (front : FrontView) (events : List Event)
    (left going : List SentLeg) (back : List ℕ) : Type 0 where
  pub kept : List SentLeg
  pub leaves : left ≡ kept ++ going
  pub flows : AreReplies messages deliveries kept back
  pub own : AreOf number kept
  pub run : FrontRuns w number front (after_all events front)

pub returns_run : ReplyLaws → (messages : List Message) (deliveries : List Delivery) (replies : List Reply) (returning going left : List SentLeg) (events : List Event)
    (bytes rest later : List ℕ) (w : WorldView) (number : ℕ) (front : FrontView)
    → w.sent ≡ messages → w.replies ≡ deliveries → At w.proxies number front.core → AreOf number returning
    → AreReplies messages deliveries returning (bytes ++ later) → Reads SpellsReply replies bytes rest → TakesAll (returning ++ going) replies events left
    → IsLeft messages deliveries w number front events left going (rest ++ later)
returns_run laws messages deliveries [] returning going left events bytes rest later w number front ws wr there own flows reads takes =
    let none = takes_none (returning ++ going) left events takes in
    record {
      kept = returning;
      leaves = none.1;
      flows = subst (λ x. AreReplies messages deliveries returning (x ++ later)) (sym reads) flows;
      own = own;
      run = front_to w number front front (after_all events front) (ap (λ e. after_all e front) (sym none.0)) (front_stays w number front there);
    }
returns_run laws messages deliveries (reply ∷ replies) [] going left events bytes rest later w number front ws wr there own flows reads takes =
    let e : reads.1.spelling ++ (reads.0 ++ later) ≡ [] =
    sym (append_assoc reads.1.spelling reads.0 later) ∙ ap (λ b. b ++ later) (sym reads.1.splits) ∙ flows in
    absurd (reply_has_bytes laws reads.1.spelling (reads.0 ++ later) reply reads.1.spells e)
returns_run laws messages deliveries (reply ∷ replies) (sent ∷ returning) going left events bytes rest later w number front ws wr there own flows reads takes =
    let e : reads.1.spelling ++ (reads.0 ++ later) ≡ canonical_reply flows.0 ++ flows.1 =
    sym (append_assoc reads.1.spelling reads.0 later) ∙ ap (λ b. b ++ later) (sym reads.1.splits) ∙ flows.4 in
    let one = first_reply laws reads.1.spelling (reads.0 ++ later) flows.1 reply flows.0 reads.1.spells flows.3 e in
    let was : WasAnswered messages deliveries sent reply = subst (λ r. WasAnswered messages deliveries sent r) (sym one.0) flows.2 in
    let front' : FrontView = after_all (takings sent.client (legs_of sent) takes.0) front in
    let first = takes_sent messages deliveries w number front sent reply takes.0 ws wr there own.0 was takes.2 in
    let next = returns_run laws messages deliveries replies returning going left takes.1 reads.0 rest later first.so.world number front'
    (first.so.sent ∙ ws) (first.so.replies ∙ wr) (stands w number front.core front'.core first.so there) own.1
    (subst (λ x. AreReplies messages deliveries returning x) (sym one.1) flows.5) reads.2 takes.4 in
    record {
      kept = next.kept;
      leaves = next.leaves;
      flows = next.flows;
      own = next.own;
      run = front_to w number front (after_all takes.1 front') (after_all events front)
          (sym (ap (λ es. after_all es front) takes.3 ∙ after_both (takings sent.client (legs_of sent) takes.0) takes.1 front))
          (front_on w number front front' (after_all takes.1 front') first next.run);
    }
