-- What happens to a proxy's loop beside its clients: a dial, a break, a tick, a restart, a place, and what a client hears.
use Rattle.std.proofs.Common.{◌≡◌, ◌≢◌, ℕ, suc, inl, inr, Bool, true, false, List, [], ◌∷◌, ◌++◌, map, slice_get, slice_set, drop, Option, Some, None, if◌then◌else◌, refl, sym, ap, ◌∙◌, subst}
use Rattle.mr_history.specs.Places.{At}
use Rattle.mr_history.specs.declared.entry.Entry.{Entry}
use Rattle.mr_loop.specs.Counts.{dial_counted}
use Rattle.mr_loop.specs.Events.{FrontView, Event, after_all, after_event}
use Rattle.mr_loop.specs.Inboxes.{fresh_inbox}
use Rattle.mr_loop.specs.Links.{down_link}
use Rattle.mr_loop.specs.LoopView.{LoopView, with_link, LinkBreaks, LinkDialed, ClientRead, IsAsked, after_tick, with_place}
use Rattle.mr_loop.specs.Returning.{after_break, give_ups}
use Rattle.mr_loop.specs.Ticking.{ticked, ticks, is_late, given_up_at}
use Rattle.mr_loop.specs.Turns.{fresh_client}
use Rattle.mr_loop.specs.declared.client.Client.{Client}
use Rattle.mr_loop.specs.declared.inbox.Inbox.{Inbox}
use Rattle.mr_loop.specs.declared.link.Link.{Link}
use Rattle.mr_loop.specs.declared.turns.Turn.TheVariants.{Answered}
use Rattle.mr_world.specs.WorldView.{WorldView}
use Rattle.mr_streams.specs.Flows.{AreOf}
use Rattle.mr_streams.specs.OneProxy.{AreKnown, KnowsTurns, FrontRuns}
use Rattle.mr_streams.specs.Steps.{with_loop}
use Rattle.mr_streams.specs.StreamsView.{StreamsView}
use Rattle.mr_streams.proofs.Changing.{IsSameLink}
use Rattle.mr_streams.proofs.Fronts.{front_stays, front_to, front_on}
use Rattle.mr_streams.proofs.Lists.{at_map, at_set, at_last, at_one}
use Rattle.mr_streams.proofs.LoopMoves.{core_there, own_links, moves_quietly, runs_in}
use Rattle.mr_streams.proofs.Mirrors.{MirrorsStreams, AreLegal, IsLegalInput, RunsTo}
use Rattle.mr_streams.proofs.Runs.{stays, stands}
use Rattle.mr_streams.proofs.Taking.{breaks_run, give_ups_run}

-- a step that changes one link alone leaves the others
pub others_same : (links : List Link) (node place : ℕ) (link link' : Link) → At links node link
    → (link.is_up ≡ true → link'.is_up ≡ true → (link'.legs ≡ link.legs) × (link'.reader.kept ≡ link.reader.kept) × (link'.out ≡ link.out))
    → IsSameLink links (slice_set links node link') place
others_same links node place link link' there same = λ old new h k was is.
    elim (at_set links node link' k) [
      | inl e ↦ (
          let one : link ≡ old = at_one there (subst (λ n. At links n old) e.0 h) in
          subst (λ (x : Link). (x.legs ≡ old.legs) × (x.reader.kept ≡ old.reader.kept) × (x.out ≡ old.out)) (sym e.1)
          (subst (λ (x : Link). (link'.legs ≡ x.legs) × (link'.reader.kept ≡ x.reader.kept) × (link'.out ≡ x.out)) one
          (same (ap (λ (x : Link). x.is_up) one ∙ was) (ap (λ (x : Link). x.is_up) (sym e.1) ∙ is))))
      | inr e ↦ (let one : old ≡ new = at_one h e.1 in
          (ap (λ (x : Link). x.legs) (sym one), ap (λ (x : Link). x.reader.kept) (sym one), ap (λ (x : Link). x.out) (sym one)))
    ]

pub all_same : (links : List Link) (place : ℕ) → IsSameLink links links place
all_same links place = λ old new h k was is. (let one : old ≡ new = at_one h k in
    (ap (λ (x : Link). x.legs) (sym one), ap (λ (x : Link). x.reader.kept) (sym one), ap (λ (x : Link). x.out) (sym one)))

-- the legs of the links are of the proxy where those of a new one are
pub own_set : (p : ℕ) (links : List Link) (node : ℕ) (link' : Link) → ((place : ℕ) (link : Link) → At links place link → AreOf p link.legs) → AreOf p link'.legs
    → (place : ℕ) (link : Link) → At (slice_set links node link') place link → AreOf p link.legs
own_set p links node link' own new place link h =
    elim (at_set links node link' h) [ inl e ↦ subst (λ (x : Link). AreOf p x.legs) (sym e.1) new | inr e ↦ own place link e.1 ]

-- the core is as it was
abbrev pub front_same : (w : WorldView) (number : ℕ) (front front' : FrontView) → At w.proxies number front.core → front'.core ≡ front.core
    → (AreKnown w.history front.clients → AreKnown w.history front'.clients) → FrontRuns w number front front'
front_same w number front front' there same known = record {
  so = stays w number front'.core (subst (λ c. At w.proxies number c) (sym same) there);
  known = known;
}

-- a loop that is so by another word
to_loop : (w : WorldView) (s : StreamsView) (p : ℕ) (loop' explicit : LoopView) → loop' ≡ explicit → RunsTo w [] (with_loop p explicit s) → RunsTo w [] (with_loop p loop' s)
to_loop w s p loop' explicit f h = runs_in w [] (with_loop p explicit s) (with_loop p loop' s) (ap (λ x. with_loop p x s) f) h

-- a dial leaves the links as they were
pub dialed_same : (link : ℕ) (loop loop' : LoopView) → LinkDialed link loop loop' → (place : ℕ) → IsSameLink loop.links loop'.links place
dialed_same link loop loop' l place =
    subst (λ x. IsSameLink loop.links x place) (sym (ap (λ (x : LoopView). x.links) l.becomes))
    (others_same loop.links link place l.link (record l.link { counts = dial_counted l.link.counts }) (record { gets = l.there }) (λ was is. (refl, refl, refl)))

pub dialed : (w : WorldView) (s : StreamsView) (p link : ℕ) (loop loop' : LoopView) → MirrorsStreams w s → At s.loops p loop → LinkDialed link loop loop' → RunsTo w [] (with_loop p loop' s)
dialed w s p link loop loop' m home l =
    let there : At loop.links link l.link = record { gets = l.there } in
    let new : Link = record l.link { counts = dial_counted l.link.counts } in
    let explicit : LoopView = with_link loop loop.front link new in
    to_loop w s p loop' explicit l.becomes
    (moves_quietly w s p loop explicit m home (front_stays w p loop.front (core_there w s p loop m home)) (m.legal p loop home)
    (own_set p loop.links link new (own_links w s p loop m home) (own_links w s p loop m home link l.link there))
    (λ place. others_same loop.links link place l.link new there (λ was is. (refl, refl, refl))))

-- so does a link that breaks, but for itself
pub broken_same : (link now : ℕ) (loop loop' : LoopView) → LinkBreaks link now loop loop' → (place : ℕ) → IsSameLink loop.links loop'.links place
broken_same link now loop loop' l place =
    let down : l.link'.is_up ≡ false = ap (λ (x : Link). x.is_up) l.breaks.down in
    subst (λ x. IsSameLink loop.links x place) (sym (ap (λ (x : LoopView). x.links) l.becomes))
    (others_same loop.links link place l.link l.link' (record { gets = l.there }) (λ was is. absurd (let no : false ≡ true = sym down ∙ is in cc)))

pub broken : (w : WorldView) (s : StreamsView) (p link now : ℕ) (loop loop' : LoopView) → MirrorsStreams w s → At s.loops p loop → LinkBreaks link now loop loop' → RunsTo w [] (with_loop p loop' s)
broken w s p link now loop loop' m home l =
    let there : At loop.links link l.link = record { gets = l.there } in
    let explicit : LoopView = with_link loop l.front' link l.link' in
    let own = own_links w s p loop m home in
    let down : l.link'.is_up ≡ false = ap (λ (x : Link). x.is_up) l.breaks.down in
    let empty : l.link'.legs ≡ [] = ap (λ (x : Link). x.legs) l.breaks.down in
    to_loop w s p loop' explicit l.becomes
    (moves_quietly w s p loop explicit m home
    (breaks_run now l.link l.link' loop.front l.front' w p (core_there w s p loop m home) (own link l.link there) l.breaks)
    (m.legal p loop home)
    (own_set p loop.links link l.link' own (subst (λ x. AreOf p x) (sym empty) tt))
    (λ place. others_same loop.links link place l.link l.link' there (λ was is. absurd (let no : false ≡ true = sym down ∙ is in cc))))

-- a client is asked for that was touched
pub touched : (w : WorldView) (s : StreamsView) (p : ℕ) (place : Option ℕ) (loop loop' : LoopView) → MirrorsStreams w s → At s.loops p loop → IsAsked loop place loop' → RunsTo w [] (with_loop p loop' s)
touched w s p None loop loop' m home step =
    to_loop w s p loop' loop step.1
    (moves_quietly w s p loop loop m home (front_stays w p loop.front (core_there w s p loop m home)) (m.legal p loop home) (own_links w s p loop m home) (all_same loop.links))
touched w s p (Some place) loop loop' m home step =
    let explicit : LoopView = record loop { front = record loop.front { touched = loop'.front.touched } } in
    to_loop w s p loop' explicit step.1
    (moves_quietly w s p loop explicit m home (front_same w p loop.front explicit.front (core_there w s p loop m home) refl (λ known. known)) (m.legal p loop home)
    (own_links w s p loop m home) (all_same loop.links))

all_append : (es fs : List Event) (f : FrontView) → after_all (es ++ fs) f ≡ after_all fs (after_all es f)
all_append [] fs f = refl
all_append (e ∷ es) fs f = all_append es fs (after_event e f)

-- what is given up over one link at a tick
tick_one : (bound now : ℕ) (link : Link) (late : Bool) (w : WorldView) (number : ℕ) (front : FrontView) → At w.proxies number front.core → AreOf number link.legs
    → FrontRuns w number front (after_all (if late then give_ups link.legs else []) front)
tick_one bound now link true w number front there own = give_ups_run link.legs w number front there own
tick_one bound now link false w number front there own = front_stays w number front there

tick_run : (bound now : ℕ) (links : List Link) (w : WorldView) (number : ℕ) (front : FrontView) → At w.proxies number front.core
    → ((place : ℕ) (link : Link) → At links place link → AreOf number link.legs) → FrontRuns w number front (after_all (ticks bound now links) front)
tick_run bound now [] w number front there own = front_stays w number front there
tick_run bound now (link ∷ links) w number front there own =
    let given : List Event = given_up_at bound now link in
    let between : FrontView = after_all given front in
    let first : FrontRuns w number front between = tick_one bound now link (is_late bound now link) w number front there (own 0 link (record { gets = refl })) in
    let next = tick_run bound now links first.so.world number between (stands w number front.core between.core first.so there)
    (λ place other h. own (suc place) other (record { gets = h.gets })) in
    front_to w number front (after_all (ticks bound now links) between) (after_all (ticks bound now (link ∷ links)) front)
    (sym (all_append given (ticks bound now links) front)) (front_on w number front between (after_all (ticks bound now links) between) first next)

ticked_same : (late : Bool) (bound now : ℕ) (link down : Link) → down.is_up ≡ false → (if late then down else link).is_up ≡ true → (if late then down else link) ≡ link
ticked_same true bound now link down is up = absurd (let no : false ≡ true = sym is ∙ up in cc)
ticked_same false bound now link down is up = refl

-- links that stay up at a tick are as they were
pub ticked_all_same : (bound now : ℕ) (links : List Link) (place : ℕ) → IsSameLink links (map (ticked bound now) links) place
ticked_all_same bound now links place = λ old new a k was is.
    let from = at_map (ticked bound now) links k in
    let one : from.0 ≡ old = at_one from.1 a in
    let up : (ticked bound now from.0).is_up ≡ true = ap (λ (x : Link). x.is_up) (sym from.2) ∙ is in
    let same : new ≡ old = from.2 ∙ ticked_same (is_late bound now from.0) bound now from.0 (down_link (after_break now from.0)) refl up ∙ one in
    (ap (λ (x : Link). x.legs) same, ap (λ (x : Link). x.reader.kept) same, ap (λ (x : Link). x.out) same)

ticked_own : (late : Bool) (p : ℕ) (link down : Link) → down.legs ≡ [] → AreOf p link.legs → AreOf p (if late then down else link).legs
ticked_own true p link down none own = subst (λ x. AreOf p x) (sym none) tt
ticked_own false p link down none own = own

pub tick : (w : WorldView) (s : StreamsView) (p now : ℕ) (loop : LoopView) → MirrorsStreams w s → At s.loops p loop → RunsTo w [] (with_loop p (after_tick now loop) s)
tick w s p now loop m home =
    let bound : ℕ = loop.limits.leg_timeout in
    let own = own_links w s p loop m home in
    moves_quietly w s p loop (after_tick now loop) m home (tick_run bound now loop.links w p loop.front (core_there w s p loop m home) own) (m.legal p loop home)
    (λ place link k. (let old = at_map (ticked bound now) loop.links k in
    subst (λ (x : Link). AreOf p x.legs) (sym old.2) (ticked_own (is_late bound now old.0) p old.0 (down_link (after_break now old.0)) refl (own place old.0 old.1))))
    (ticked_all_same bound now loop.links)

legal_set : (inboxes : List Inbox) (place : ℕ) → AreLegal inboxes → AreLegal (slice_set inboxes place fresh_inbox)
legal_set inboxes place legal = λ n inbox h. elim (at_set inboxes place fresh_inbox h) [
  | inl e ↦ subst (λ (x : Inbox). IsLegalInput x.held) (sym e.1) tt
  | inr e ↦ legal n inbox e.1
]

legal_more : (inboxes : List Inbox) → AreLegal inboxes → AreLegal (inboxes ++ fresh_inbox ∷ [])
legal_more inboxes legal = λ n inbox h. elim (at_last inboxes fresh_inbox h) [
  | inl e ↦ legal n inbox e
  | inr e ↦ subst (λ (x : Inbox). IsLegalInput x.held) (sym e.1) tt
]

none_some : {X : Type 0} (place : ℕ) (x : X) → slice_get [] place ≢ Some x
none_some place x e = cc

no_turns : (history : List Entry) (client : Client) → client.turns ≡ [] → KnowsTurns history client.turns
no_turns history client e = λ place answer h wants. absurd (let none : slice_get [] place ≡ Some (Answered answer) = (subst (λ t. At t place (Answered answer)) e h).gets in none_some place (Answered answer) none)

known_fresh : (history : List Entry) (clients : List Client) (place : ℕ) → AreKnown history clients → AreKnown history (slice_set clients place fresh_client)
known_fresh history clients place known = λ n client there. elim (at_set clients place fresh_client there) [
  | inl e ↦ no_turns history client (ap (λ (c : Client). c.turns) e.1)
  | inr e ↦ known n client e.1
]

known_place : (history : List Entry) (clients : List Client) → AreKnown history clients → AreKnown history (clients ++ fresh_client ∷ [])
known_place history clients known = λ n client there. elim (at_last clients fresh_client there) [
  | inl e ↦ known n client e
  | inr e ↦ no_turns history client (ap (λ (c : Client). c.turns) e.1)
]

-- a place begins anew
pub refreshed_runs : (w : WorldView) (s : StreamsView) (p client : ℕ) (loop loop' : LoopView) → MirrorsStreams w s → At s.loops p loop
    → loop'.front.core ≡ loop.front.core → loop'.front.clients ≡ slice_set loop.front.clients client fresh_client → loop'.inboxes ≡ slice_set loop.inboxes client fresh_inbox
    → loop'.links ≡ loop.links → RunsTo w [] (with_loop p loop' s)
refreshed_runs w s p client loop loop' m home core clients inboxes links =
    moves_quietly w s p loop loop' m home
    (front_same w p loop.front loop'.front (core_there w s p loop m home) core
    (λ known. subst (λ x. AreKnown w.history x) (sym clients) (known_fresh w.history loop.front.clients client known)))
    (subst AreLegal (sym inboxes) (legal_set loop.inboxes client (m.legal p loop home)))
    (subst (λ x. (place : ℕ) (link : Link) → At x place link → AreOf p link.legs) (sym links) (own_links w s p loop m home))
    (subst (λ x. (place : ℕ) → IsSameLink loop.links x place) (sym links) (all_same loop.links))

pub place_added : (w : WorldView) (s : StreamsView) (p : ℕ) (loop : LoopView) → MirrorsStreams w s → At s.loops p loop → RunsTo w [] (with_loop p (with_place loop) s)
place_added w s p loop m home =
    let explicit : LoopView = with_place loop in
    moves_quietly w s p loop explicit m home
    (front_same w p loop.front explicit.front (core_there w s p loop m home) refl (known_place w.history loop.front.clients))
    (legal_more loop.inboxes (m.legal p loop home)) (own_links w s p loop m home) (all_same loop.links)

pub hears : (w : WorldView) (s : StreamsView) (p client count : ℕ) (loop loop' : LoopView) → MirrorsStreams w s → At s.loops p loop → ClientRead client count loop loop' → RunsTo w [] (with_loop p loop' s)
hears w s p client count loop loop' m home l =
    let new : Client = record l.was { out = drop count l.was.out } in
    let explicit : LoopView = record loop { front = record loop.front { clients = slice_set loop.front.clients client new } } in
    let known : AreKnown w.history loop.front.clients → AreKnown w.history explicit.front.clients = λ known n other there. elim (at_set loop.front.clients client new there) [
      | inl e ↦ subst (λ (c : Client). KnowsTurns w.history c.turns) (sym e.1) (known client l.was (record { gets = l.there }))
      | inr e ↦ known n other e.1
    ] in
    to_loop w s p loop' explicit l.becomes
    (moves_quietly w s p loop explicit m home (front_same w p loop.front explicit.front (core_there w s p loop m home) refl known)
    (m.legal p loop home) (own_links w s p loop m home) (all_same loop.links))
