-- Replies that are taken, one by one.
use Rattle.std.proofs.Common.{◌≡◌, ℕ, ◌⊎◌, inl, inr, Bool, true, false, ◌||◌, IsTrue, List, [], ◌∷◌, ◌++◌, Err, refl, sym, ap, ◌∙◌, subst, append_assoc}
use Rattle.std.proofs.lemmas.List.{append-nil}
use Rattle.mr_text.specs.Replies.{SpellsReply, NextReplyIs}
use Rattle.mr_text.specs.Stream.{ReaderView, BeginsWith}
use Rattle.mr_text.specs.declared.error.TextError.{TextError}
use Rattle.mr_text.specs.declared.error.TextError.TheVariants.{LineTooLong, BadKey, BadNumber, WrongWords, DataTooLong, BadDataEnd, UnknownCommand, Truncated, Closed, OutOfMemory}
use Rattle.mr_text.specs.declared.reply.Reply.{Reply}
use Rattle.mr_join.specs.declared.leg_reply.LegReply.{LegReply}
use Rattle.mr_loop.specs.declared.sent_legs.SentLeg.{SentLeg}
use Rattle.mr_loop.specs.Events.{FrontView, Event, after_event, after_all}
use Rattle.mr_loop.specs.Links.{legs_of}
use Rattle.mr_loop.specs.Returning.{AnswersSent, Reads, TakesAll, HasTaken, takings, IsRefused}

reads_more : (replies : List Reply) (bytes rest after : List ℕ) (reply : Reply) → Reads SpellsReply replies bytes rest → BeginsWith SpellsReply rest reply after
    → Reads SpellsReply (replies ++ reply ∷ []) bytes after
reads_more [] bytes rest after reply r b =
    let P : List ℕ → Type 0 = λ x. BeginsWith SpellsReply x reply after in
    (after, subst P r b, refl)
reads_more (first ∷ replies) bytes rest after reply r b = (r.0, r.1, reads_more replies r.0 rest after reply r.2 b)

takes_more : (legs : List SentLeg) (replies : List Reply) (events : List Event) (sent : SentLeg) (left : List SentLeg) (reply : Reply) (said : List LegReply)
    → TakesAll legs replies events (sent ∷ left) → AnswersSent sent reply said
    → TakesAll legs (replies ++ reply ∷ []) (events ++ takings sent.client (legs_of sent) said) left
takes_more [] [] events sent left reply said h e = absurd (let no : sent ∷ left ≡ [] = h.1 in cc)
takes_more (first ∷ legs) [] events sent left reply said h e =
    let whole : sent ∷ left ≡ first ∷ legs = h.1 in
    let same : sent ≡ first = cc in
    let rest : left ≡ legs = cc in
    let P : SentLeg → Type 0 = λ s. AnswersSent s reply said in
    let now : SentLeg → List Event = λ s. takings s.client (legs_of s) said in
    (said, [], subst P same e, ap (λ x. x ++ now sent) h.0 ∙ ap now same ∙ sym (append-nil (now first)), (refl, rest))
takes_more [] (r ∷ replies) events sent left reply said h e = absurd h
takes_more (first ∷ legs) (r ∷ replies) events sent left reply said h e =
    let now : List Event = takings sent.client (legs_of sent) said in
    let first_now : List Event = takings first.client (legs_of first) h.0 in
    (h.0, h.1 ++ now, h.2, ap (λ x. x ++ now) h.3 ∙ append_assoc first_now h.1 now, takes_more legs replies h.1 sent left reply said h.4 e)

pub after_more : (events : List Event) (event : Event) (f : FrontView) → after_all (events ++ event ∷ []) f ≡ after_event event (after_all events f)
after_more [] event f = refl
after_more (first ∷ events) event f = after_more events event (after_event first f)

pub after_both : (events more : List Event) (f : FrontView) → after_all (events ++ more) f ≡ after_all more (after_all events f)
after_both [] more f = refl
after_both (first ∷ events) more f = after_both events more (after_event first f)

none_takes : (legs : List SentLeg) → TakesAll legs [] [] legs
none_takes [] = (refl, refl)
none_takes (sent ∷ legs) = (refl, refl)

pub taken_none : (bytes : List ℕ) (legs : List SentLeg) (front : FrontView) → HasTaken bytes legs front bytes legs front
taken_none bytes legs front = record { replies = []; events = []; reads = refl; takes = none_takes legs; happens = refl }

pub taken_more : (bytes : List ℕ) (legs : List SentLeg) (front : FrontView) (rest : List ℕ) (left : List SentLeg) (between : FrontView)
    (sent : SentLeg) (reply : Reply) (said : List LegReply) (after : List ℕ) (later : List SentLeg) (front' : FrontView)
    → HasTaken bytes legs front rest left between → BeginsWith SpellsReply rest reply after → left ≡ sent ∷ later
    → AnswersSent sent reply said → front' ≡ after_all (takings sent.client (legs_of sent) said) between
    → HasTaken bytes legs front after later front'
taken_more bytes legs front rest left between sent reply said after later front' h b e says step =
    let P : List SentLeg → Type 0 = λ x. TakesAll legs h.replies h.events x in
    let now : List Event = takings sent.client (legs_of sent) said in
    record {
      replies = h.replies ++ reply ∷ [];
      events = h.events ++ now;
      reads = reads_more h.replies bytes rest after reply h.reads b;
      takes = takes_more legs h.replies h.events sent later reply said (subst P e h.takes) says;
      happens = step ∙ ap (λ f. after_all now f) h.happens ∙ sym (after_both h.events now front);
    }

or_left : (a b : Bool) → a ≡ true → IsTrue (a || b)
or_left true b e = refl
or_left false b e = absurd (let no : false ≡ true = e in cc)

or_right : (a b : Bool) → b ≡ true → IsTrue (a || b)
or_right true b e = refl
or_right false true e = refl
or_right false false e = absurd (let no : false ≡ true = e in cc)

-- what the reader refuses
pub refused : (old new : ReaderView) (refusal : TextError) (left : List SentLeg) → NextReplyIs old new old.kept (Err refusal)
    → IsRefused refusal old.kept left ⊎ IsTrue (old.closed || old.ended)
refused old new OutOfMemory left n = inl (inl refl)
refused old new LineTooLong left n = inl (inr n.1)
refused old new BadKey left n = inl (inr n.1)
refused old new BadNumber left n = inl (inr n.1)
refused old new WrongWords left n = inl (inr n.1)
refused old new DataTooLong left n = inl (inr n.1)
refused old new BadDataEnd left n = inl (inr n.1)
refused old new (UnknownCommand true) left n = inl (inr n.1)
refused old new (UnknownCommand false) left n = absurd n.2
refused old new Truncated left n = inr (or_right old.closed old.ended n.1)
refused old new Closed left n = inr (or_left old.closed old.ended n.0)
