-- Legs that go over their links, and are taken back.
use Rattle.std.proofs.Common.{◌≡◌, ℕ, suc, zero, ◌-◌, List, [], ◌∷◌, ◌++◌, Bool, true, false, ◌&&◌, cond, Option, Some, None, length, take, slice_set, refl, sym, ap, ◌∙◌}
use Rattle.std.specs.Prelude.{slice_get}
use Rattle.std.proofs.lemmas.List.{set-set}
use Rattle.std.proofs.Math.Seq.{take-append_seam}
use Rattle.mr_pools.specs.Routing.{RoutingView}
use Rattle.mr_proxy.specs.declared.sheet.LegSheet.{LegSheet}
use Rattle.mr_loop.specs.declared.link.Link.{Link}
use Rattle.mr_loop.specs.declared.sending.Mark.{Mark}
use Rattle.mr_loop.specs.declared.sent_legs.SentLeg.{SentLeg}
use Rattle.mr_loop.specs.declared.link_counts.LinkCounts.{LinkCounts}
use Rattle.mr_loop.specs.Counts.{each_counted, leg_unsent, one_unsent}
use Rattle.mr_loop.specs.Links.{link_of, legs_of, text_of, with_leg, after_sending, is_up_at, sent_over, sent_over_in, each_sent}
use Rattle.mr_loop.specs.steps.Sending.{each_up, mark_of, without_last, undone, undone_one, undone_in}
use Rattle.mr_loop.proofs.PlaceLemmas.{set_same, set_there, last_taken}

-- what couldn't go is counted no more
unsent_back : (sheets : List LegSheet) (counts : LinkCounts) (lost : ℕ) → record (each_counted one_unsent sheets counts) { lost = lost } ≡ record counts { lost = lost }
unsent_back [] counts lost = refl
unsent_back (sheet ∷ sheets) counts lost = unsent_back sheets (one_unsent counts) lost

taken_if : (up : Bool) (number : ℕ) (sent : SentLeg) (link : Link) → link.is_up ≡ up
    → without_last (mark_of number link) (cond up (with_leg sent link) (record link { counts = leg_unsent sent link.counts })) ≡ link
taken_if true number sent link e =
    let one : Link = with_leg sent link in
    let out : take (length link.out) (link.out ++ text_of sent) ≡ link.out = take-append_seam link.out (text_of sent) in
    let legs = last_taken link.legs sent in
    ap (λ b. cond b (record one { legs = take (length one.legs - 1) one.legs; out = take (length link.out) one.out })
    (record one { counts = record one.counts { lost = link.counts.lost } })) e
    ∙ ap (λ o. record (with_leg sent link) { legs = take (length (link.legs ++ sent ∷ []) - 1) (link.legs ++ sent ∷ []); out = o }) out
    ∙ ap (λ l. record link { legs = l }) legs
taken_if false number sent link e =
    let one : Link = record link { counts = leg_unsent sent link.counts } in
    ap (λ b. cond b (record one { legs = take (length one.legs - 1) one.legs; out = take (length link.out) one.out })
    (record one { counts = record one.counts { lost = link.counts.lost } })) e
    ∙ ap (λ k. record link { counts = k }) (unsent_back (legs_of sent) link.counts link.counts.lost)

-- what went last, or couldn't go, is taken back
pub taken_back : (number : ℕ) (sent : SentLeg) (link : Link) → without_last (mark_of number link) (after_sending sent link) ≡ link
taken_back number sent link = taken_if link.is_up number sent link refl

-- a link that a leg was put to has it taken back
pub undone_leg : (links : List Link) (number : ℕ) (link : Link) (sent : SentLeg) → slice_get links number ≡ Some link
    → undone_one (mark_of number link) (slice_set links number (after_sending sent link)) ≡ links
undone_leg links number link sent e =
    ap (λ o. undone_in o (mark_of number link) (slice_set links number (after_sending sent link))) (set_there links number (after_sending sent link) link e)
    ∙ set-set links number (after_sending sent link) (without_last (mark_of number link) (after_sending sent link))
    ∙ ap (λ l. slice_set links number l) (taken_back number sent link)
    ∙ set_same links number link e

pub undone_more : (marks : List Mark) (mark : Mark) (links : List Link) → undone (marks ++ mark ∷ []) links ≡ undone marks (undone_one mark links)
undone_more [] mark links = refl
undone_more (first ∷ marks) mark links = ap (λ l. undone_one first l) (undone_more marks mark links)

-- one more goes
pub each_sent_more : (routing : RoutingView) (sents : List SentLeg) (sent : SentLeg) (links : List Link)
    → each_sent routing (sents ++ sent ∷ []) links ≡ sent_over (link_of routing sent.leg) sent (each_sent routing sents links)
each_sent_more routing [] sent links = refl
each_sent_more routing (first ∷ sents) sent links = each_sent_more routing sents sent (sent_over (link_of routing first.leg) first links)

pub and_true : (b : Bool) → b && true ≡ b
and_true true = refl
and_true false = refl

pub and_assoc : (a b c : Bool) → (a && b) && c ≡ a && (b && c)
and_assoc true b c = refl
and_assoc false b c = refl

pub each_up_more : (routing : RoutingView) (sents : List SentLeg) (sent : SentLeg) (links : List Link)
    → each_up routing (sents ++ sent ∷ []) links ≡ each_up routing sents links && is_up_at links (link_of routing sent.leg)
each_up_more routing [] sent links = and_true (is_up_at links (link_of routing sent.leg))
each_up_more routing (first ∷ sents) sent links =
    ap (λ b. is_up_at links (link_of routing first.leg) && b) (each_up_more routing sents sent links)
    ∙ sym (and_assoc (is_up_at links (link_of routing first.leg)) (each_up routing sents links) (is_up_at links (link_of routing sent.leg)))

up_same : (links : List Link) (number : ℕ) (link new : Link) (other : ℕ) → slice_get links number ≡ Some link → new.is_up ≡ link.is_up
    → is_up_at (slice_set links number new) other ≡ is_up_at links other
up_same [] number link new other e up = refl
up_same (first ∷ links) zero link new zero e up = let same : first ≡ link = cc in up ∙ ap (λ (l : Link). l.is_up) (sym same)
up_same (first ∷ links) zero link new (suc other) e up = refl
up_same (first ∷ links) (suc number) link new zero e up = refl
up_same (first ∷ links) (suc number) link new (suc other) e up = up_same links number link new other e up

up_kept_if : (up : Bool) (link : Link) (sent : SentLeg)
    → (cond up (with_leg sent link) (record link { counts = leg_unsent sent link.counts })).is_up ≡ link.is_up
up_kept_if true link sent = refl
up_kept_if false link sent = refl

up_after_by : (o : Option Link) (links : List Link) (number : ℕ) (sent : SentLeg) (other : ℕ) → slice_get links number ≡ o
    → is_up_at (sent_over_in o number sent links) other ≡ is_up_at links other
up_after_by None links number sent other e = refl
up_after_by (Some link) links number sent other e = up_same links number link (after_sending sent link) other e (up_kept_if link.is_up link sent)

-- a leg that goes leaves each link up that was
pub up_after : (links : List Link) (number : ℕ) (sent : SentLeg) (other : ℕ) → is_up_at (sent_over number sent links) other ≡ is_up_at links other
up_after links number sent other = up_after_by (slice_get links number) links number sent other refl

pub up_after_all : (routing : RoutingView) (sents : List SentLeg) (links : List Link) (other : ℕ)
    → is_up_at (each_sent routing sents links) other ≡ is_up_at links other
up_after_all routing [] links other = refl
up_after_all routing (sent ∷ sents) links other =
    up_after_all routing sents (sent_over (link_of routing sent.leg) sent links) other ∙ up_after links (link_of routing sent.leg) sent other

-- it is taken back by its mark
pub went_back : (links : List Link) (number : ℕ) (mark : Mark) (link new : Link) (sent : SentLeg) (marks marks' : List Mark)
    → slice_get links number ≡ Some link → new ≡ after_sending sent link → mark ≡ mark_of number link → marks' ≡ marks ++ mark ∷ []
    → undone marks' (slice_set links number new) ≡ undone marks links
went_back links number mark link new sent marks marks' there e is more =
    ap (λ m. undone m (slice_set links number new)) more
    ∙ undone_more marks mark (slice_set links number new)
    ∙ ap (λ l. undone marks (undone_one mark (slice_set links number l))) e
    ∙ ap (λ m. undone marks (undone_one m (slice_set links number (after_sending sent link)))) is
    ∙ ap (λ l. undone marks l) (undone_leg links number link sent there)

-- what a mark tells of is taken back
pub back_one : (links : List Link) (mark : Mark) (link new : Link) → slice_get links mark.number ≡ Some link → new ≡ without_last mark link
    → slice_set links mark.number new ≡ undone_one mark links
back_one links mark link new there e =
    ap (λ l. slice_set links mark.number l) e ∙ sym (ap (λ o. undone_in o mark links) there)

-- whether all are up that the next one is with
pub up_next : (routing : RoutingView) (front : List SentLeg) (sent : SentLeg) (first links : List Link) (number : ℕ) (all went now : Bool)
    → all ≡ each_up routing front first → links ≡ each_sent routing front first → number ≡ link_of routing sent.leg
    → went ≡ is_up_at links number → now ≡ all && went → now ≡ each_up routing (front ++ sent ∷ []) first
up_next routing front sent first links number all went now up gone is w n =
    let here : went ≡ is_up_at first (link_of routing sent.leg) =
    w ∙ ap (λ l. is_up_at l number) gone ∙ ap (λ k. is_up_at (each_sent routing front first) k) is
    ∙ up_after_all routing front first (link_of routing sent.leg) in
    n ∙ ap (λ b. b && went) up ∙ ap (λ b. each_up routing front first && b) here ∙ sym (each_up_more routing front sent first)

-- the next one went behind the others
pub sent_next : (routing : RoutingView) (front : List SentLeg) (sent : SentLeg) (first links links' : List Link) (number : ℕ)
    → links ≡ each_sent routing front first → number ≡ link_of routing sent.leg → links' ≡ sent_over number sent links
    → links' ≡ each_sent routing (front ++ sent ∷ []) first
sent_next routing front sent first links links' number gone is step =
    step ∙ ap (λ l. sent_over number sent l) gone ∙ ap (λ k. sent_over k sent (each_sent routing front first)) is
    ∙ sym (each_sent_more routing front sent first)
