-- Each step keeps a fleet secured as long as its premises hold.
use Rattle.std.proofs.Common.{◌≡◌, ℕ, ◌+◌, ◌<◌, ◌≤◌, Bool, true, false, IsTrue, List, [], ◌∷◌, ◌++◌, length, remove, slice_get, slice_set, Option, Some, None, Contains, if◌then◌else◌, refl, sym, ap, subst, subst₂, ◌∙◌, inl, inr, arith}
use Rattle.std.proofs.lemmas.Bool.{leb-true}
use Rattle.std.proofs.lemmas.List.{append-nil}
use Rattle.std.proofs.lemmas.Option.{none-some}
use Rattle.mr_text.specs.declared.request.Request.{Request}
use Rattle.mr_text.specs.declared.request.Request.TheVariants as request
use Rattle.mr_text.specs.declared.reply.Reply.{Reply}
use Rattle.mr_clock.specs.Clocks.{NeverGoesBack}
use Rattle.mr_history.specs.declared.op_id.OpId.{OpId}
use Rattle.mr_history.specs.declared.entry.Entry.{Entry}
use Rattle.mr_history.specs.declared.entry.Entry.TheVariants as entry
use Rattle.mr_history.specs.History.{IsIssued, IsFreshHit, IsSafe, IsWellFormed}
use Rattle.mr_history.specs.Places.{At}
use Rattle.mr_node.specs.CacheStep.{Holds, contents_of}
use Rattle.mr_node.specs.Command.{key_of_command}
use Rattle.mr_node.specs.Output.{is_silent}
use Rattle.mr_phases.specs.Pools.{read_pool, delete_pools, SomeFrom}
use Rattle.mr_phases.specs.Schedule.{Hop, IsChain}
use Rattle.mr_pools.specs.Names.{name_at}
use Rattle.mr_pools.specs.Routing.{RoutingView, pool_of, place_of}
use Rattle.mr_proxy.specs.declared.taken.Taken.{Taken}
use Rattle.mr_proxy.specs.declared.taken.Taken.TheVariants as taken
use Rattle.mr_proxy.specs.Answer.{AnswerView, reply_of}
use Rattle.mr_proxy.specs.Issue.{used_reading, after_issue}
use Rattle.mr_proxy.specs.Pending.{PendingView, is_complete}
use Rattle.mr_proxy.specs.ProxyView.{ProxyView}
use Rattle.mr_proxy.specs.Sheets.{pool_at}
use Rattle.mr_proxy.specs.Transitions.{place_of_op, pending_with, noted_by, settled, after_take, taken_of, left_by, after_give_up, after_restart}
use Rattle.mr_world.specs.declared.event.Event.{Event}
use Rattle.mr_world.specs.declared.event.Event.TheVariants.{Clock, Client, Deliver, Return, GiveUp, NodeRestart, ProxyRestart}
use Rattle.mr_world.specs.declared.message.Message.{Message}
use Rattle.mr_world.specs.declared.message.Delivery.{Delivery}
use Rattle.mr_world.specs.declared.node.Node.{Node}
use Rattle.mr_world.specs.declared.note.Note.{Note}
use Rattle.mr_world.specs.Facts.{HitsCameBack, IsFaithfulWorld}
use Rattle.mr_world.specs.Ground.{HitsAreFresh, IsGround}
use Rattle.mr_world.specs.Grounded.{IsGrounded, IsSecured, StaysSecured}
use Rattle.mr_world.specs.Headline.{AllHold, DeletesHold, StandsOnGround}
use Rattle.mr_world.specs.Lists.{Has}
use Rattle.mr_world.specs.Positions.{node_number}
use Rattle.mr_world.specs.Premises.{premises_of, ticks_in}
use Rattle.mr_world.specs.Steps.{answered, answered_by, Ticks, Issues, ClientAsks, Delivers, Returns, GivesUp, Empties, Restarts, WorldStep}
use Rattle.mr_world.specs.Tracked.{IsTracked}
use Rattle.mr_world.specs.WorldView.{WorldView}
use Rattle.mr_world.proofs.Lists.{at_one, at_set, at_there, at_left, at_within, has_one, has_none}
use Rattle.mr_world.proofs.FactLemmas.{issued_place}
use Rattle.mr_world.proofs.ReadyLemmas.{TellsPremises}
use Rattle.mr_world.proofs.TrackedLemmas.{number_written}
use Rattle.mr_world.proofs.GroundLaws.{GroundLaws, IssuesNothing, up_higher, down_quiet, sets_quiet, gets_grow, held_grows, hits_more}
use Rattle.mr_world.proofs.DeliveredLemmas.{delivers_grounded, performed_safe}
use Rattle.mr_world.proofs.IssuedLemmas.{used_is, issued_grounded, issued_safe}

-- answers

pub data AnswersOnly : List Entry → Type 0 where
  none : AnswersOnly []
  one : (op : OpId) (reply : Reply) → AnswersOnly (entry.Answered op reply ∷ [])

answers_if : (answer : AnswerView) (b : Bool) → AnswersOnly (if b then [] else entry.Answered answer.op (reply_of answer) ∷ [])
answers_if answer true = none
answers_if answer false = one answer.op (reply_of answer)

answers_only : (answer : AnswerView) → AnswersOnly (answered answer)
answers_only answer = answers_if answer (is_silent answer.request)

taken_answers_only : (t : Taken) → AnswersOnly (answered_by t)
taken_answers_only taken.Waiting = none
taken_answers_only (taken.Answered answer) = answers_only answer
taken_answers_only (taken.Stranger reply) = none

answers_issue_nothing : {K : List Entry} → AnswersOnly K → IssuesNothing K
answers_issue_nothing none = λ op proxy q h. has_none h
answers_issue_nothing (one other reply) = λ op proxy q h. (let e = has_one h in cc)

answers_remove_nothing : {K : List Entry} → AnswersOnly K → (op : OpId) (side : _) (key : List ℕ) → Has K (entry.Removed op side key) → ⊥
answers_remove_nothing none op side key h = has_none h
answers_remove_nothing (one other reply) op side key h = let e = has_one h in cc

module _ (L : GroundLaws) where
  answers_grounded : (routing : RoutingView) (hops : List Hop) (w : WorldView) (P : List ProxyView) (K : List Entry) → AnswersOnly K → IsWellFormed (w.history ++ K)
      → IsGrounded routing hops w → IsGrounded routing hops (record w { proxies = P; history = w.history ++ K })
  answers_grounded routing hops w P K only formed g = record {
    plan = g.plan;
    least = g.least;
    pools = g.pools;
    goes = g.goes;
    reached = g.reached;
    reach_down = down_quiet hops g.reach_down (answers_issue_nothing only);
    sets_later = sets_quiet g.sets_later (answers_issue_nothing only);
    gets_later = gets_grow K g.gets_later;
    held = λ pool node key datum below at holds. held_grows (g.held pool node key datum below at holds) (λ m has there h. answers_remove_nothing only _ _ _ h);
    fresh = hits_more L w.sent w.replies w.history K formed g.fresh;
  }

  -- each item of a new answer came back from a node, and was fresh then
  answers_safe : (S : List Message) (R : List Delivery) (H K : List Entry) → AnswersOnly K → IsWellFormed (H ++ K) → HitsCameBack S R (H ++ K) → HitsAreFresh S R H
      → IsSafe H → IsSafe (H ++ K)
  answers_safe S R H [] none formed hits fresh safe = subst IsSafe (sym (append-nil H)) safe
  answers_safe S R H (e ∷ []) (one op reply) formed hits fresh safe =
      L.safe_grows H (entry.Answered op reply) formed safe (λ get item issue index hit.
      let found = hits get hit.items item (length H) hit.answered (record { place = index; there = hit.has }) in
      let kept = fresh found.message item.flags item.block found.came in
      let key : key_of_command found.message.sheet.command ≡ item.key = ap key_of_command found.asked in
      let was = kept.0 in
      let below = at_within was.issued.there in
      let own = subst (λ o. IsIssued (H ++ entry.Answered op reply ∷ []) o was.request was.place) found.of_get
      (record { proxy = was.issued.proxy; there = at_left (entry.Answered op reply ∷ []) was.issued.there }) in
      let place : was.place ≡ issue = issued_place formed own hit.issued in
      let early : IsFreshHit H item was.place (length H) = subst (λ k. IsFreshHit H (record { key = k; flags = item.flags; block = item.block }) was.place (length H)) key (kept.1) in
      subst (λ i. IsFreshHit (H ++ entry.Answered op reply ∷ []) item i (length H)) place
      (L.fresh_grows H (entry.Answered op reply ∷ []) item was.place (length H) formed early (omega arith)))
  answers_safe S R H (e ∷ (f ∷ K)) only formed hits fresh safe = elim only [ ]

  -- clocks

  -- a reading is a former one of that proxy, or above it
  risen : (readings : List ℕ) (number t before : ℕ) → At readings number before → before ≤ t → {n c : ℕ} → At (slice_set readings number t) n c → (was : ℕ) × At readings n was × (was ≤ c)
  risen readings number t before there up {n = n} {c = c} h =
      elim (at_set readings number t h) [
        | inl e ↦ (before, subst (λ k. At readings k before) (sym (e.0)) there, (let is = e.1 in omega arith))
        | inr e ↦ (c, e.1, omega arith)
      ]

  still_from : (hops : List Hop) (t u pool : ℕ) → IsChain hops → t ≤ u → SomeFrom (delete_pools hops t) pool → SomeFrom (delete_pools hops u) pool
  still_from hops t u pool chain up some =
      let more = L.deletes_up hops t u some.found chain up some.has in
      record { found = more.found; has = more.has; from = (let a = some.from in let b = more.from in omega arith) }

  ticks_grounded : (routing : RoutingView) (hops : List Hop) (w : WorldView) (number t before : ℕ) (note : Note) (new : WorldView) → Ticks w number t note new
      → At w.readings.standing number before → before ≤ t → IsGrounded routing hops w → IsGrounded routing hops new
  ticks_grounded routing hops w number t before note new step there up g =
      let rise = λ (n c : ℕ) (h : At (slice_set w.readings.standing number t) n c). risen w.readings.standing number t before there up h in
      let chain = g.plan.schedule.chain in
      subst (IsGrounded routing hops) (sym step.becomes) (record {
        plan = g.plan;
        least = g.least;
        pools = g.pools;
        goes = g.goes;
        reached = λ by item pool n c sent h. (let (was, at, above) = rise n c h in still_from hops was c pool chain above (g.reached by item pool n was sent at));
        reach_down = λ d key noreply issue n c issued h.
            let (was, at, above) = rise n c h in
            up_higher (read_pool hops c) (L.read_up hops was c chain above) (g.reach_down d key noreply issue n was issued at);
        sets_later = g.sets_later;
        gets_later = g.gets_later;
        held = g.held;
        fresh = g.fresh;
      })

  -- an empty node

  empties_grounded : (routing : RoutingView) (hops : List Hop) (w : WorldView) (name : List ℕ) (note : Note) (new : WorldView) → Empties w name note new
      → IsGrounded routing hops w → IsGrounded routing hops new
  empties_grounded routing hops w name note new step g =
      let k = node_number w.nodes name in
      let empty : Node = record { name = step.node.name; cache = record step.node.cache { items = [] } } in
      let home = λ (pool : ℕ) (key : List ℕ). number_written w.nodes k step.node empty (name_at routing pool (place_of routing.hash (pool_of routing pool) key)) step.there.gets refl in
      subst (IsGrounded routing hops) (sym step.becomes) (record {
        plan = g.plan;
        least = g.least;
        pools = g.pools;
        goes = λ m has. g.goes m has ∙ sym (home (pool_at m.sheet) (key_of_command m.sheet.command));
        reached = g.reached;
        reach_down = g.reach_down;
        sets_later = g.sets_later;
        gets_later = g.gets_later;
        held = λ pool node key datum below at holds.
            let at' = subst (λ i. At (slice_set w.nodes k empty) i node) (home pool key) at in
            elim (at_set w.nodes k empty at') [
              | inl here ↦ absurd (none-some datum (subst (λ (x : Node). Holds (contents_of x.cache.items) key datum) (here.1) holds))
              | inr there ↦ g.held pool node key datum below (there.1) holds
            ];
        fresh = g.fresh;
      })

-- the facts, as a reader wants them

-- what a hop says of the pools before its start, and before its middle
pub record EarlyLaws : Type 0 where
  pub before_start : (hops : List Hop) (t number pool : ℕ) (hop : Hop) → IsChain hops → slice_get hops number ≡ Some hop → t < hop.start
      → Contains (delete_pools hops t) pool → pool ≤ number
  pub before_middle : (hops : List Hop) (t number : ℕ) (hop : Hop) → IsChain hops → slice_get hops number ≡ Some hop
      → t < hop.start + hop.interval → read_pool hops t ≤ number

module _ (L : EarlyLaws) where
  ground_of : (routing : RoutingView) (hops : List Hop) (w : WorldView) → IsGrounded routing hops w → IsGround routing hops w
  ground_of routing hops w g =
      let chain = g.plan.schedule.chain in
      record {
        sets_reached = g.reached;
        deletes_reach = g.reach_down;
        sets_later = g.sets_later;
        gets_later = g.gets_later;
        held = g.held;
        fresh = g.fresh;
        early_sets = λ number hop by item pool n c there sent clock early.
            let some = g.reached by item pool n c sent clock in
            let from = some.from in
            let stays = L.before_start hops c number some.found hop chain there.gets early some.has in
            omega arith;
        early_deletes = λ number hop d key noreply issue n c there issued clock early.
            up_higher number (L.before_middle hops c number hop chain there.gets early) (g.reach_down d key noreply issue n c issued clock);
      }

  pub stands : (w : WorldView) → StaysSecured w → StandsOnGround w
  stands w secured = λ hold n p there. ground_of p.routing p.schedule w ((secured hold).grounded n p there)

pub holds_safe : (w : WorldView) → StaysSecured w → DeletesHold w
holds_safe w secured = λ hold. (secured hold).safe

-- what a proxy keeps at a reply and when it gives up

pub record Stays (p q : ProxyView) : Type 0 where
  pub routing : q.routing ≡ p.routing
  pub schedule : q.schedule ≡ p.schedule
  pub last : q.last ≡ p.last

stays_if : (p : ProxyView) (place : ℕ) (pending : PendingView) (b : Bool)
    → Stays p (if b then record p { outstanding = remove p.outstanding place } else record p { outstanding = slice_set p.outstanding place pending })
stays_if p place pending true = record { routing = refl; schedule = refl; last = refl }
stays_if p place pending false = record { routing = refl; schedule = refl; last = refl }

stays_settled : (p : ProxyView) (place : ℕ) (o : Option PendingView) → Stays p (settled p place o)
stays_settled p place None = record { routing = refl; schedule = refl; last = refl }
stays_settled p place (Some pending) = stays_if p place pending (is_complete pending)

stays_left : (p : ProxyView) (place : ℕ) (o : Option PendingView) → Stays p (left_by p place o)
stays_left p place None = record { routing = refl; schedule = refl; last = refl }
stays_left p place (Some pending) = record { routing = refl; schedule = refl; last = refl }

-- each event

-- each proxy's plan is that of the proxy of its number before
abbrev pub KeepsPlans : List ProxyView → List ProxyView → Type 0
KeepsPlans P Q = (n : ℕ) (q : ProxyView) → At Q n q → (p : ProxyView) × At P n p × (q.routing ≡ p.routing) × (q.schedule ≡ p.schedule)

plans_same : (P : List ProxyView) → KeepsPlans P P
plans_same P n q there = (q, there, refl, refl)

plans_set : (P : List ProxyView) (number : ℕ) (p q : ProxyView) → At P number p → q.routing ≡ p.routing → q.schedule ≡ p.schedule → KeepsPlans P (slice_set P number q)
plans_set P number p q home routing schedule n x there =
    elim (at_set P number q there) [
      | inl e ↦ (p, subst (λ k. At P k p) (sym (e.0)) home, ap (λ (y : ProxyView). y.routing) (e.1) ∙ routing, ap (λ (y : ProxyView). y.schedule) (e.1) ∙ schedule)
      | inr e ↦ (x, e.1, refl, refl)
    ]

abbrev pub ArePast : List ℕ → List ProxyView → Type 0
ArePast readings P = (n : ℕ) (p : ProxyView) (reading last : ℕ) → At P n p → At readings n reading → p.last ≡ Some last → last ≤ reading

past_set : (readings : List ℕ) (P : List ProxyView) (number : ℕ) (q : ProxyView) → ArePast readings P
    → ((reading last : ℕ) → At readings number reading → q.last ≡ Some last → last ≤ reading) → ArePast readings (slice_set P number q)
past_set readings P number q past mine n x reading last there clock is =
    elim (at_set P number q there) [
      | inl e ↦ mine reading last (subst (λ k. At readings k reading) (e.0) clock) (ap (λ (y : ProxyView). y.last) (sym (e.1)) ∙ is)
      | inr e ↦ past n x reading last (e.1) clock is
    ]

secured_by : (old new : WorldView) → IsSecured old → KeepsPlans old.proxies new.proxies → ArePast new.readings.standing new.proxies → IsSafe new.history
    → ((n : ℕ) (p : ProxyView) → At old.proxies n p → IsGrounded p.routing p.schedule new) → IsSecured new
secured_by old new s plans past safe each = record {
  alike = λ m n p q at at'.
      let (p', there, r, h) = plans m p at in
      let (q', there', r', h') = plans n q at' in
      let same = s.alike m n p' q' there there' in
      (r ∙ same.0 ∙ sym r', h ∙ same.1 ∙ sym h');
  past = past;
  safe = safe;
  grounded = λ n q at.
      let (p, there, r, h) = plans n q at in
      subst₂ (λ x y. IsGrounded x y new) (sym r) (sym h) (each n p there);
}

-- nothing of the ground speaks of proxies
same_but_proxies : (routing : RoutingView) (hops : List Hop) (w : WorldView) (P : List ProxyView) → IsGrounded routing hops w → IsGrounded routing hops (record w { proxies = P })
same_but_proxies routing hops w P g = record {
  plan = g.plan;
  least = g.least;
  pools = g.pools;
  goes = g.goes;
  reached = g.reached;
  reach_down = g.reach_down;
  sets_later = g.sets_later;
  gets_later = g.gets_later;
  held = g.held;
  fresh = g.fresh;
}

module _ (L : GroundLaws) where
  ticks_secured : (old : WorldView) (number t : ℕ) (note : Note) (new : WorldView) → IsTracked old → Ticks old number t note new
      → NeverGoesBack old.readings.standing (ticks_in (Clock number t)) → IsSecured old → IsSecured new
  ticks_secured old number t note new track step forward s =
      let count = track.clocks in
      let home = step.home in
      let (before, there) = at_there old.readings.standing number (omega arith) in
      let up = forward.0 before there.gets in
      secured_by old new s (subst (λ (w : WorldView). KeepsPlans old.proxies w.proxies) (sym step.becomes) (plans_same old.proxies))
      (subst (λ (w : WorldView). ArePast w.readings.standing w.proxies) (sym step.becomes)
      (λ n p c last at h is. let (was, clock, above) = risen L old.readings.standing number t before there up h in let below = s.past n p was last at clock is in omega arith))
      (subst (λ (w : WorldView). IsSafe w.history) (sym step.becomes) s.safe)
      (λ n p at. ticks_grounded L p.routing p.schedule old number t before note new step there up (s.grounded n p at))

  issues_secured : (old : WorldView) (number : ℕ) (q : Request) (note : Note) (new : WorldView) → IsTracked old → IsWellFormed new.history → old.readings.spread ≤ old.terms.least
      → Issues old number q note new → IsSecured old → IsSecured new
  issues_secured old number q note new track formed near step s =
      let p = step.proxy in
      let u = step.reading in
      let after = after_issue p u q in
      let grown = subst (λ (w : WorldView). IsWellFormed w.history) step.becomes formed in
      let past = λ (last : ℕ) (is : p.last ≡ Some last). s.past number p u last step.home step.clock is in
      let ground = s.grounded number p step.home in
      let now = used_is p.last u past in
      secured_by old new s (subst (λ (w : WorldView). KeepsPlans old.proxies w.proxies) (sym step.becomes) (plans_set old.proxies number p after step.home refl refl))
      (subst (λ (w : WorldView). ArePast w.readings.standing w.proxies) (sym step.becomes)
      (past_set old.readings.standing old.proxies number after s.past
      (λ c last clock is. let same : u ≡ c = at_one step.clock clock in let used : used_reading p.last u ≡ last = cc in omega arith)))
      (subst (λ (w : WorldView). IsSafe w.history) (sym step.becomes) (issued_safe L old number u p q track step.clock past near ground grown s.safe))
      (λ n other at.
      let same = s.alike n number other p at step.home in
      subst₂ (λ x y. IsGrounded x y new) (sym (same.0)) (sym (same.1))
      (subst (IsGrounded p.routing p.schedule) (sym step.becomes)
      (issued_grounded L old number u p q track step.clock past near ground grown (slice_set old.proxies number after))))

  asks_secured : (old : WorldView) (number : ℕ) (q : Request) (note : Note) (new : WorldView) → IsTracked old → IsWellFormed new.history → old.readings.spread ≤ old.terms.least
      → ClientAsks old number q note new → IsSecured old → IsSecured new
  asks_secured old number (request.Get keys) note new track formed near step s = issues_secured old number (request.Get keys) note new track formed near step s
  asks_secured old number (request.Set key flags exptime block noreply) note new track formed near step s =
      issues_secured old number (request.Set key flags exptime block noreply) note new track formed near step s
  asks_secured old number (request.Delete key noreply) note new track formed near step s = issues_secured old number (request.Delete key noreply) note new track formed near step s
  asks_secured old number request.Quit note new track formed near step s = subst IsSecured (sym step.becomes) s

  delivers_secured : (old : WorldView) (number now : ℕ) (note : Note) (new : WorldView) → IsTracked old → IsWellFormed new.history → IsFaithfulWorld old
      → Delivers old number now note new → IsSecured old → IsSecured new
  delivers_secured old number now note new track formed f step s =
      secured_by old new s (subst (λ (w : WorldView). KeepsPlans old.proxies w.proxies) (sym step.becomes) (plans_same old.proxies))
      (subst (λ (w : WorldView). ArePast w.readings.standing w.proxies) (sym step.becomes) s.past)
      (subst (λ (w : WorldView). IsSafe w.history) (sym step.becomes)
      (performed_safe L old.history step.message.sheet step.message.sheet.command (subst (λ (w : WorldView). IsWellFormed w.history) step.becomes formed) s.safe))
      (λ n p at. delivers_grounded L p.routing p.schedule old number now note new step track.hops track.formed formed f (track.proxies n p at).named (s.grounded n p at))

  -- one proxy takes a reply or gives up, and may answer
  moves_secured : (old : WorldView) (number : ℕ) (p q : ProxyView) (K : List Entry) → At old.proxies number p → Stays p q → AnswersOnly K → IsWellFormed (old.history ++ K)
      → HitsCameBack old.sent old.replies (old.history ++ K) → IsSecured old → IsSecured (record old { proxies = slice_set old.proxies number q; history = old.history ++ K })
  moves_secured old number p q K home stays only formed hits s =
      secured_by old (record old { proxies = slice_set old.proxies number q; history = old.history ++ K }) s
      (plans_set old.proxies number p q home stays.routing stays.schedule)
      (past_set old.readings.standing old.proxies number q s.past (λ c last clock is. s.past number p c last home clock (sym stays.last ∙ is)))
      (answers_safe L old.sent old.replies old.history K only formed hits (s.grounded number p home).fresh s.safe)
      (λ n x at. answers_grounded L x.routing x.schedule old (slice_set old.proxies number q) K only formed (s.grounded n x at))

  returns_secured : (old : WorldView) (number : ℕ) (note : Note) (new : WorldView) → IsWellFormed new.history → IsFaithfulWorld new → Returns old number note new
      → IsSecured old → IsSecured new
  returns_secured old number note new formed f step s =
      let p = step.proxy in
      let id = step.message.sheet.id in
      let t = taken_of p id step.reply in
      subst IsSecured (sym step.becomes)
      (moves_secured old step.sender p (after_take p id step.reply) (answered_by t) step.home (stays_settled p (place_of_op p.outstanding id.op) (noted_by p id step.reply))
      (taken_answers_only t) (subst (λ (w : WorldView). IsWellFormed w.history) step.becomes formed)
      (subst (λ (w : WorldView). HitsCameBack w.sent w.replies w.history) step.becomes f.hits) s)

  gives_up_secured : (old : WorldView) (op : OpId) (note : Note) (new : WorldView) → IsWellFormed new.history → IsFaithfulWorld new → GivesUp old op note new
      → IsSecured old → IsSecured new
  gives_up_secured old op note new formed f step s =
      let p = step.proxy in
      subst IsSecured (sym step.becomes)
      (moves_secured old op.proxy p (after_give_up p op) (answered step.answer) step.home (stays_left p (place_of_op p.outstanding op) (pending_with p.outstanding op))
      (answers_only step.answer) (subst (λ (w : WorldView). IsWellFormed w.history) step.becomes formed)
      (subst (λ (w : WorldView). HitsCameBack w.sent w.replies w.history) step.becomes f.hits) s)

  empties_secured : (old : WorldView) (name : List ℕ) (note : Note) (new : WorldView) → Empties old name note new → IsSecured old → IsSecured new
  empties_secured old name note new step s =
      secured_by old new s (subst (λ (w : WorldView). KeepsPlans old.proxies w.proxies) (sym step.becomes) (plans_same old.proxies))
      (subst (λ (w : WorldView). ArePast w.readings.standing w.proxies) (sym step.becomes) s.past)
      (subst (λ (w : WorldView). IsSafe w.history) (sym step.becomes) s.safe)
      (λ n p at. empties_grounded L p.routing p.schedule old name note new step (s.grounded n p at))

  restarts_secured : (old : WorldView) (number : ℕ) (note : Note) (new : WorldView) → Restarts old number note new → IsSecured old → IsSecured new
  restarts_secured old number note new step s =
      let after = after_restart step.proxy in
      subst IsSecured (sym step.becomes)
      (secured_by old (record old { proxies = slice_set old.proxies number after }) s
      (plans_set old.proxies number step.proxy after step.home refl refl)
      (past_set old.readings.standing old.proxies number after s.past (λ c last clock is. cc))
      s.safe
      (λ n x at. same_but_proxies x.routing x.schedule old (slice_set old.proxies number after) (s.grounded n x at)))

  event_secured : (old : WorldView) (event : Event) (note : Note) (new : WorldView) → IsTracked old → IsWellFormed new.history → IsFaithfulWorld old → IsFaithfulWorld new
      → WorldStep old event note new → NeverGoesBack old.readings.standing (ticks_in event) → old.readings.spread ≤ old.terms.least → IsSecured old → IsSecured new
  event_secured old (Clock proxy reading) note new track formed f f' step forward near s = ticks_secured old proxy reading note new track step forward s
  event_secured old (Client proxy q) note new track formed f f' step forward near s = asks_secured old proxy q note new track formed near step s
  event_secured old (Deliver message now) note new track formed f f' step forward near s = delivers_secured old message now note new track formed f step s
  event_secured old (Return reply) note new track formed f f' step forward near s = returns_secured old reply note new formed f' step s
  event_secured old (GiveUp op) note new track formed f f' step forward near s = gives_up_secured old op note new formed f' step s
  event_secured old (NodeRestart name) note new track formed f f' step forward near s = empties_secured old name note new step s
  event_secured old (ProxyRestart proxy) note new track formed f f' step forward near s = restarts_secured old proxy note new step s

  -- premises that hold afterwards held before
  pub step_secured : TellsPremises → (old new : WorldView) (event : Event) (note : Note) → IsTracked old → IsTracked new → IsFaithfulWorld old → IsFaithfulWorld new
      → StaysSecured old → WorldStep old event note new → StaysSecured new
  step_secured tell old new event note track track' f f' secured step = λ hold.
      let after = tell old new (event ∷ []) track (new, note, step, refl) in
      let forward = (after.forward).0 hold.forward in
      let near = (after.near).0 hold.near in
      let before : AllHold (premises_of old) = record { same = subst IsTrue after.same hold.same; new_empty = subst IsTrue after.new_empty hold.new_empty; forward = forward.0; near = near.0 } in
      event_secured old event note new track track'.formed f f' step (subst (NeverGoesBack old.readings.standing) (append-nil (ticks_in event)) (forward.1))
      (leb-true old.readings.spread old.terms.least (near.0)) (secured before)
