-- What becomes due by one thing that happens is issued by it.
use Rattle.std.proofs.Common.{◌≡◌, ◌≢◌, ℕ, ◌+◌, ◌<◌, ◌⊎◌, inl, inr, List, [], ◌∷◌, ◌++◌, length, map, slice_get, slice_set, drop, refl, sym, ap, ◌∙◌, subst, append_assoc, arith}
use Rattle.std.specs.List.{AllByRecursion}
use Rattle.std.proofs.lemmas.List.{append-nil, map-append}
use Rattle.std.proofs.lemmas.Option.{slice_get_within}
use Rattle.mr_clock.specs.Readings.{Tick}
use Rattle.mr_history.specs.Places.{At}
use Rattle.mr_history.specs.declared.entry.Entry.{Entry}
use Rattle.mr_loop.specs.Asking.{Asking, AsksOn, DoesAll}
use Rattle.mr_loop.specs.Events.{FrontView}
use Rattle.mr_loop.specs.LoopView.{LoopView, asker_of}
use Rattle.mr_loop.specs.Runs.{Due, due_of_turn, due}
use Rattle.mr_loop.specs.Ticking.{ticks}
use Rattle.mr_loop.specs.Turns.{fresh_client}
use Rattle.mr_loop.specs.declared.asker.Asker.{Asker}
use Rattle.mr_loop.specs.declared.asking.Pause.{Pause}
use Rattle.mr_loop.specs.declared.client.Client.{Client}
use Rattle.mr_counting.specs.declared.client_counts.ClientCounts.{ClientCounts}
use Rattle.mr_loop.specs.declared.inbox.Inbox.{Inbox}
use Rattle.mr_loop.specs.declared.link.Link.{Link}
use Rattle.mr_streams.specs.Entries.{issued_by, issued_in}
use Rattle.mr_streams.specs.Issuing.{IsIssuedBy, BecomesDue, RequestsAreIssuedAsTheyCome, all_due}
use Rattle.mr_streams.specs.Steps.{ProxyDoes, StreamsStep}
use Rattle.mr_streams.specs.StreamsView.{StreamsView, Visit, fresh_visit}
use Rattle.mr_streams.proofs.Dues.{Grew, GrewAt, StaysDue, all_grew, grew_none, grew_on, quiet_stays, quiet_ticks, stays_breaks, stays_to}
use Rattle.mr_streams.proofs.Hearing.{done_due}
use Rattle.mr_streams.proofs.HearingEvents.{LoopOk, StreamsOk, asked_touched, breaks_due, front_stays_due, link_due, run_ok, starts_ok, stopped_front}
use Rattle.mr_streams.proofs.Lists.{at_set, at_last, at_left, at_nothing, at_one, at_right, same_or_not}

issued_left : (gains more : List Entry) (dues : List Due) → AllByRecursion (IsIssuedBy gains) dues → AllByRecursion (IsIssuedBy (gains ++ more)) dues
issued_left gains more [] h = h
issued_left gains more (Due.Op op ∷ dues) h = (
  record { place = h.0.place; request = h.0.request; issued = record { proxy = h.0.issued.proxy; there = at_left more h.0.issued.there } },
  issued_left gains more dues h.1,
)
issued_left gains more (Due.Line reply ∷ dues) h = (tt, issued_left gains more dues h.1)

issued_right : (before gains : List Entry) (dues : List Due) → AllByRecursion (IsIssuedBy gains) dues → AllByRecursion (IsIssuedBy (before ++ gains)) dues
issued_right before gains [] h = h
issued_right before gains (Due.Op op ∷ dues) h = (
  record { place = length before + h.0.place; request = h.0.request; issued = record { proxy = h.0.issued.proxy; there = at_right before h.0.issued.there } },
  issued_right before gains dues h.1,
)
issued_right before gains (Due.Line reply ∷ dues) h = (tt, issued_right before gains dues h.1)

both_issued : (gains : List Entry) (first later : List Due) → AllByRecursion (IsIssuedBy gains) first → AllByRecursion (IsIssuedBy gains) later → AllByRecursion (IsIssuedBy gains) (first ++ later)
both_issued gains [] later h k = k
both_issued gains (one ∷ first) later h k = (h.0, both_issued gains first later h.1 k)

-- what becomes due by things that a client sent is issued by them
record OwnSo (asker : Asker) (gains : List Entry) (first last : FrontView) : Type 0 where
  grows : ℕ → List Due
  grew : Grew first.clients grows last.clients
  elsewhere : (place : ℕ) → place ≢ asker.client → grows place ≡ []
  own : AllByRecursion (IsIssuedBy gains) (grows asker.client)

all_own : (asker : Asker) (old new : Asking) (did : DoesAll asker old new) → OwnSo asker (issued_in did) old.front new.front
all_own asker old new DoesAll.starts = record { grows = λ n. []; grew = grew_none old.front.clients; elsewhere = λ n other. refl; own = tt }
all_own asker old new (DoesAll.goes_on {between = between} before one) =
    let a = all_own asker old between before in
    let gains : List Entry = issued_by one.input between.front.core new.front.core in
    let done = done_due one.input asker [] between.front new.front between.links new.links one.done in
    let made : ℕ → List Due = λ n. due n done.so.events between.front in
    let grew : Grew between.front.clients made new.front.clients =
    subst (λ (f : FrontView). Grew between.front.clients made f.clients) (sym done.so.happens) (all_grew done.so.events between.front done.so.no_flush) in
    record {
      grows = λ n. a.grows n ++ made n;
      grew = grew_on old.front.clients between.front.clients new.front.clients a.grows made a.grew grew;
      elsewhere = λ n other. ap (λ x. x ++ made n) (a.elsewhere n other) ∙ done.so.elsewhere n other;
      own = both_issued (issued_in before ++ gains) (a.grows asker.client) (made asker.client) (issued_left (issued_in before) gains (a.grows asker.client) a.own)
          (issued_right (issued_in before) gains (made asker.client) (subst (λ d. AllByRecursion (IsIssuedBy gains) d) (sym done.so.here) done.own));
    }

-- what is due to the client of a place is as it was, and more
grown : (loop : LoopView) (visits : List Visit) (gains : List Entry) (place : ℕ) (client : Client) (before visit : Visit) (more : List Due) → GrewAt loop.front.clients place more client
    → At visits place before → visit.put ≡ before.put → AllByRecursion (IsIssuedBy gains) more → BecomesDue loop visits gains place visit client
grown loop visits gains place client before visit more g visited same own = record {
  was = g.was;
  before = before;
  there = g.there;
  visited = visited;
  more = more;
  grows = ap (λ p. map due_of_turn (p ++ client.turns)) same ∙ map-append due_of_turn before.put client.turns ∙ ap (λ x. map due_of_turn before.put ++ x) g.dues
      ∙ sym (append_assoc (map due_of_turn before.put) (map due_of_turn g.was.turns) more) ∙ ap (λ x. x ++ more) (sym (map-append due_of_turn before.put g.was.turns));
  own = own;
}

quiet_due : (loop loop' : LoopView) (visits : List Visit) (gains : List Entry) (place : ℕ) (client : Client) (visit : Visit) → StaysDue loop.front loop'.front → At loop'.front.clients place client
    → At visits place visit → BecomesDue loop visits gains place visit client
quiet_due loop loop' visits gains place client visit stays a b = grown loop visits gains place client visit visit [] (stays.grew.each place client a) b refl tt

same_due : (loop : LoopView) (visits : List Visit) (gains : List Entry) (place : ℕ) (client : Client) (visit : Visit) → At loop.front.clients place client → At visits place visit
    → BecomesDue loop visits gains place visit client
same_due loop visits gains place client visit a b = record {
  was = client;
  before = visit;
  there = a;
  visited = b;
  more = [];
  grows = sym (append-nil (all_due visit client));
  own = tt;
}

-- a place begins anew
anew : (loop : LoopView) (visits : List Visit) (gains : List Entry) (at place : ℕ) (client : Client) (visit : Visit) → At (slice_set loop.front.clients at fresh_client) place client
    → At (slice_set visits at fresh_visit) place visit → (all_due visit client ≡ []) ⊎ BecomesDue loop visits gains place visit client
anew loop visits gains at place client visit a b = elim (at_set loop.front.clients at fresh_client a) [
  | inl e ↦ elim (at_set visits at fresh_visit b) [
    | inl f ↦ inl (ap (λ v. all_due v client) f.1 ∙ ap (λ c. all_due fresh_visit c) e.1)
    | inr f ↦ absurd (f.0 e.0)
  ]
  | inr e ↦ elim (at_set visits at fresh_visit b) [
    | inl f ↦ absurd (e.0 f.0)
    | inr f ↦ inr (same_due loop visits gains place client visit e.1 f.1)
  ]
]

-- what became due to a client by what it asks, or to another one
record AskedAt (loop : LoopView) (gains : List Entry) (place : ℕ) (client : Client) : Type 0 where
  more : List Due
  grew : GrewAt loop.front.clients place more client
  own : AllByRecursion (IsIssuedBy gains) more

asked_at : (loop loop' : LoopView) (asker : Asker) (pause : Pause) (fed inbox' : Inbox) (front' : FrontView) (links' : List Link) (counts' : ClientCounts)
    → (asks : AsksOn asker pause (record { inbox = fed; front = loop.front; links = loop.links; counts = loop.client_counts })
    (record { inbox = inbox'; front = front'; links = links'; counts = counts' }))
    → loop'.front ≡ front' → (place : ℕ) (client : Client) → At loop'.front.clients place client → AskedAt loop (issued_in asks.did) place client
asked_at loop loop' asker pause fed inbox' front' links' counts' asks front place client a =
    let first : Asking = record { inbox = fed; front = loop.front; links = loop.links; counts = loop.client_counts } in
    let last : Asking = record { inbox = inbox'; front = front'; links = links'; counts = counts' } in
    let so = all_own asker first asks.between asks.did in
    let same : front' ≡ asks.between.front = stopped_front asker pause asks.between last asks.stops in
    let clients : loop'.front.clients ≡ asks.between.front.clients = ap (λ (f : FrontView). f.clients) (front ∙ same) in
    record {
      more = so.grows place;
      grew = so.grew.each place client (subst (λ x. At x place client) clients a);
      own = elim (same_or_not place asker.client) [
        | inl e ↦ subst (λ n. AllByRecursion (IsIssuedBy (issued_in asks.did)) (so.grows n)) (sym e) so.own
        | inr e ↦ subst (λ d. AllByRecursion (IsIssuedBy (issued_in asks.did)) d) (sym (so.elsewhere place e)) tt
      ];
    }

-- a visit that changes in nothing that was put stands for the one before
visit_was : (visits : List Visit) (at place : ℕ) (old new visit : Visit) → At visits at old → new.put ≡ old.put → At (slice_set visits at new) place visit → (before : Visit) × At visits place before × (visit.put ≡ before.put)
visit_was visits at place old new visit there same b = elim (at_set visits at new b) [
  | inl e ↦ (old, subst (λ n. At visits n old) (sym e.0) there, ap (λ (v : Visit). v.put) e.1 ∙ same)
  | inr e ↦ (visit, e.1, refl)
]

-- whatever a proxy does
proxy_due : (history : List Entry) (reading : ℕ) (loop loop' : LoopView) (visits visits' : List Visit) (gains : List Entry) → LoopOk history visits loop → ProxyDoes reading loop visits loop' visits' gains
    → (place : ℕ) (client : Client) (visit : Visit) → At loop'.front.clients place client → At visits' place visit → (all_due visit client ≡ []) ⊎ BecomesDue loop visits gains place visit client
proxy_due history reading loop loop' visits visits' gains h (ProxyDoes.dials link step) place client visit a b =
    inr (quiet_due loop loop' visits gains place client visit (front_stays_due loop loop' (ap (λ (l : LoopView). l.front) step.becomes)) a b)
proxy_due history reading loop loop' visits visits' gains h (ProxyDoes.breaks link now step) place client visit a b = inr (quiet_due loop loop' visits gains place client visit (breaks_due link now loop loop' step) a b)
proxy_due history reading loop loop' visits visits' gains h (ProxyDoes.waits now) place client visit a b =
    inr (quiet_due loop loop' visits gains place client visit (quiet_stays (ticks loop.limits.leg_timeout now loop.links) loop.front (quiet_ticks loop.limits.leg_timeout now loop.links)) a b)
proxy_due history reading loop loop' visits visits' gains h (ProxyDoes.looks touched step) place client visit a b =
    inr (quiet_due loop loop' visits gains place client visit (asked_touched touched loop loop' step).0 a b)
proxy_due history reading loop loop' visits visits' gains h (ProxyDoes.restarts not_last) place client visit a b = absurd (at_nothing b)
proxy_due history reading loop loop' visits visits' gains h ProxyDoes.adds_place place client visit a b = elim (at_last loop.front.clients fresh_client a) [
  | inl old ↦ elim (at_last visits fresh_visit b) [
    | inl was ↦ inr (same_due loop visits gains place client visit old was)
    | inr last ↦ absurd (
        let below : place < length loop.front.clients = slice_get_within loop.front.clients place client old.gets in
        let same = h.places in
        let at = last.0 in
        omega arith)
  ]
  | inr new ↦ elim (at_last visits fresh_visit b) [
    | inl was ↦ absurd (
        let below : place < length visits = slice_get_within visits place visit was.gets in
        let same = h.places in
        let at = new.0 in
        omega arith)
    | inr last ↦ inl (ap (λ v. all_due v client) last.1 ∙ ap (λ c. all_due fresh_visit c) new.1)
  ]
]
proxy_due history reading loop loop' visits visits' gains h (ProxyDoes.comes at) place client visit a b = anew loop visits gains at place client visit a b
proxy_due history reading loop loop' visits visits' gains h (ProxyDoes.goes at) place client visit a b = anew loop visits gains at place client visit a b
proxy_due history reading loop loop' visits visits' gains h (ProxyDoes.hears {pause = pause} {visit = old} at now piece is_visit step) place client visit a b =
    let so = asked_at loop loop' (asker_of loop at reading now) pause step.fed step.inbox' step.front' step.links' step.counts' step.asks (ap (λ (x : LoopView). x.front) step.becomes) place client a in
    let was = visit_was visits at place old (record old { sent = old.sent ++ piece }) visit is_visit refl b in
    inr (grown loop visits gains place client was.0 visit so.more so.grew was.1 was.2 so.own)
proxy_due history reading loop loop' visits visits' gains h (ProxyDoes.hears_end {pause = pause} at now step) place client visit a b =
    let so = asked_at loop loop' (asker_of loop at reading now) pause step.ended step.inbox' step.front' step.links' step.counts' step.asks (ap (λ (x : LoopView). x.front) step.becomes) place client a in
    inr (grown loop visits gains place client visit visit so.more so.grew b refl so.own)
proxy_due history reading loop loop' visits visits' gains h (ProxyDoes.answers {visit = old} at is_visit l) place client visit a b =
    let t = l.tells in
    let clients : loop'.front.clients ≡ slice_set loop.front.clients at l.client = ap (λ (x : LoopView). x.front.clients) l.becomes in
    let new : Visit = record old { put = old.put ++ t.told } in
    elim (at_set loop.front.clients at l.client (subst (λ x. At x place client) clients a)) [
      | inl e ↦ elim (at_set visits at new b) [
        | inl f ↦ inr (record {
          was = l.was;
          before = old;
          there = record { gets = ap (λ n. slice_get loop.front.clients n) e.0 ∙ l.there };
          visited = subst (λ n. At visits n old) (sym e.0) is_visit;
          more = [];
          grows = ap (λ v. all_due v client) f.1 ∙ ap (λ c. all_due new c) e.1
              ∙ ap (λ x. map due_of_turn x) (append_assoc old.put t.told l.client.turns ∙ ap (λ x. old.put ++ x) (sym t.splits)) ∙ sym (append-nil (all_due old l.was));
          own = tt;
        })
        | inr f ↦ absurd (f.0 e.0)
      ]
      | inr e ↦ elim (at_set visits at new b) [
        | inl f ↦ absurd (e.0 f.0)
        | inr f ↦ inr (same_due loop visits gains place client visit e.1 f.1)
      ]
    ]
proxy_due history reading loop loop' visits visits' gains h (ProxyDoes.tells {visit = old} at piece rest is_visit splits l) place client visit a b =
    let new : Client = record l.was { out = drop (length piece) l.was.out } in
    let clients : loop'.front.clients ≡ slice_set loop.front.clients at new = ap (λ (x : LoopView). x.front.clients) l.becomes in
    let was = visit_was visits at place old (record old { heard = old.heard ++ piece }) visit is_visit refl b in
    elim (at_set loop.front.clients at new (subst (λ x. At x place client) clients a)) [
      | inl e ↦ inr (record {
        was = l.was;
        before = was.0;
        there = record { gets = ap (λ n. slice_get loop.front.clients n) e.0 ∙ l.there };
        visited = was.1;
        more = [];
        grows = ap (λ p. map due_of_turn (p ++ client.turns)) was.2 ∙ ap (λ (c : Client). map due_of_turn (was.0.put ++ c.turns)) e.1 ∙ sym (append-nil (all_due was.0 l.was));
        own = tt;
      })
      | inr e ↦ inr (record {
        was = client;
        before = was.0;
        there = e.1;
        visited = was.1;
        more = [];
        grows = ap (λ p. map due_of_turn (p ++ client.turns)) was.2 ∙ sym (append-nil (all_due was.0 client));
        own = tt;
      })
    ]

-- the clients of all loops, before and after
abbrev AllIssued : StreamsView → List Entry → StreamsView → Type 0
AllIssued old gains new =
    (proxy place : ℕ) (loop' : LoopView) (client : Client) (visits' : List Visit) (visit : Visit)
    → At new.loops proxy loop' → At loop'.front.clients place client → At new.visits proxy visits' → At visits' place visit
    → (all_due visit client ≡ [])
    ⊎ ((loop : LoopView) × (visits : List Visit) × At old.loops proxy loop × At old.visits proxy visits × BecomesDue loop visits gains place visit client)

-- nothing happens to loops
none_due : (s s' : StreamsView) (gains : List Entry) → s'.loops ≡ s.loops → s'.visits ≡ s.visits → AllIssued s gains s'
none_due s s' gains loops visits = λ proxy place loop client vs visit a b c d.
    inr (loop, vs, subst (λ x. At x proxy loop) loops a, subst (λ x. At x proxy vs) visits c, same_due loop vs gains place client visit b d)

-- one loop changes, and nothing becomes due
loop_due : (s s' : StreamsView) (gains : List Entry) (p : ℕ) (loop loop' : LoopView) → At s.loops p loop → s'.loops ≡ slice_set s.loops p loop' → s'.visits ≡ s.visits
    → StaysDue loop.front loop'.front → AllIssued s gains s'
loop_due s s' gains p loop loop' home loops visits stays = λ proxy place other client vs visit a b c d.
    elim (at_set s.loops p loop' (subst (λ x. At x proxy other) loops a)) [
      | inl e ↦ inr (
        loop,
        vs,
        subst (λ n. At s.loops n loop) (sym e.0) home,
        subst (λ x. At x proxy vs) visits c,
        quiet_due loop loop' vs gains place client visit stays (subst (λ (l : LoopView). At l.front.clients place client) e.1 b) d,
      )
      | inr e ↦ inr (other, vs, e.1, subst (λ x. At x proxy vs) visits c, same_due other vs gains place client visit b d)
    ]

-- whatever happens
step_due : (s s' : StreamsView) (ticks : List Tick) → StreamsOk s → StreamsStep s ticks s' → (gains : List Entry) × (s'.history ≡ s.history ++ gains) × AllIssued s gains s'
step_due s s' ticks ok (StreamsStep.shows tick within) = ([], sym (append-nil s.history), none_due s s' [] refl refl)
step_due s s' ticks ok (StreamsStep.at_proxy {reading = reading} {loop = loop} {loop' = loop'} {visits = visits} {visits' = visits'} {gains = gains} number clock home were does) = (
  gains,
  refl,
  λ proxy place other client vs visit a b c d. elim (at_set s.loops number loop' a) [
    | inl e ↦ elim (at_set s.visits number visits' c) [
      | inl f ↦ (
          let v = ok number loop home in
          let own = proxy_due s.history reading loop loop' visits visits' gains (subst (λ x. LoopOk s.history x loop) (at_one v.there were) v.ok) does place client visit
          (subst (λ (l : LoopView). At l.front.clients place client) e.1 b) (subst (λ x. At x place visit) f.1 d) in
          elim own [
            | inl none ↦ inl none
            | inr grew ↦ inr (loop, visits, subst (λ n. At s.loops n loop) (sym e.0) home, subst (λ n. At s.visits n visits) (sym e.0) were, grew)
          ])
      | inr f ↦ absurd (f.0 e.0)
    ]
    | inr e ↦ elim (at_set s.visits number visits' c) [
      | inl f ↦ absurd (e.0 f.0)
      | inr f ↦ inr (other, vs, e.1, f.1, same_due other vs gains place client visit b d)
    ]
  ],
)
step_due s s' ticks ok (StreamsStep.connects {loop = loop} {loop' = loop'} number link node place now home l there named within free) = (
  [],
  sym (append-nil s.history),
  loop_due s s' [] number loop loop' home refl refl
      (stays_to loop.front l.front' loop'.front (ap (λ (x : LoopView). x.front) l.becomes) (stays_breaks now l.link l.link' loop.front l.front' l.breaks)),
)
step_due s s' ticks ok (StreamsStep.at_link {c = c} {c' = c'} {loop = loop} {loop' = loop'} number there here home crosses) =
    ([], sym (append-nil s.history), loop_due s s' [] c.proxy loop loop' home refl refl (link_due c c' loop loop' crosses).0)
step_due s s' ticks ok (StreamsStep.at_node {gains = gains} number place there is_open home does) = (gains, refl, none_due s s' gains refl refl)
step_due s s' ticks ok (StreamsStep.adds_place number home) = ([], sym (append-nil s.history), none_due s s' [] refl refl)
step_due s s' ticks ok (StreamsStep.restarts number home) = ([], sym (append-nil s.history), none_due s s' [] refl refl)

-- so it is whatever happened before
pub all_issued : RequestsAreIssuedAsTheyCome
all_issued setup first old new before ticks starts run step = step_due old new ticks (run_ok first before old (starts_ok setup first starts) run) step
