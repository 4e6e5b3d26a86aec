-- Each step keeps what holds of every fleet.
use Rattle.std.proofs.Common.{◌≡◌, ◌↔◌, max, ℕ, zero, suc, ◌+◌, ◌<◌, ◌≤◌, ◌%◌, ◌⊎◌, inl, inr, Bool, true, false, List, [], ◌∷◌, ◌++◌, length, map, bytes_eq, slice_get, slice_set, Some, if◌then◌else◌, refl, sym, ap, subst, ◌∙◌, not, cond, arith}
use Rattle.std.proofs.lemmas.List.{append-nil}
use Rattle.std.proofs.lemmas.Slice.Eq.{bytes_eq-Decides}
use Rattle.std.proofs.lemmas.Nat.{mod_below}
use Rattle.std.proofs.lemmas.Option.{get_or_from_slice_get}
use Rattle.mr_text.specs.declared.request.Request.{Request}
use Rattle.mr_text.specs.declared.request.Request.TheVariants as request
use Rattle.mr_clock.specs.Readings.{AreWithin, spread_of}
use Rattle.mr_history.specs.declared.op_id.OpId.{OpId}
use Rattle.mr_history.specs.declared.entry.Entry.{Entry}
use Rattle.mr_history.specs.declared.entry.Entry.TheVariants as entry
use Rattle.mr_history.specs.History.{WasIssued, WasAnswered, Fits, IsWellFormed}
use Rattle.mr_history.specs.Places.{At}
use Rattle.mr_node.specs.declared.command.NodeCommand.{NodeCommand}
use Rattle.mr_node.specs.declared.command.NodeCommand.TheVariants.{Get, Set, Delete}
use Rattle.mr_phases.specs.declared.side.Side.{Side}
use Rattle.mr_phases.specs.declared.side.Side.TheVariants.{Old, New}
use Rattle.mr_phases.specs.Schedule.{Hop, hop_of}
use Rattle.mr_pools.specs.Hash.{spot_by}
use Rattle.mr_pools.specs.Names.{HasNode, name_at}
use Rattle.mr_pools.specs.Routing.{RoutingView, IsRouting, pool_of}
use Rattle.mr_proxy.specs.declared.sheet.LegId.{LegId}
use Rattle.mr_proxy.specs.declared.sheet.LegSheet.{LegSheet}
use Rattle.mr_proxy.specs.declared.taken.Taken.{Taken}
use Rattle.mr_proxy.specs.declared.taken.Taken.TheVariants as taken
use Rattle.mr_proxy.specs.Answer.{AnswerView, reply_of}
use Rattle.mr_proxy.specs.Issue.{next_op, used_reading, sheets_of, pending_of, after_issue}
use Rattle.mr_proxy.specs.Sheets.{sheets_by}
use Rattle.mr_phases.specs.Pools.{pool_number}
use Rattle.mr_node.specs.Command.{key_of_command}
use Rattle.mr_node.specs.Output.{is_silent}
use Rattle.mr_proxy.specs.Pending.{PendingView}
use Rattle.mr_proxy.specs.ProxyView.{ProxyView}
use Rattle.mr_proxy.specs.Sheets.{pool_at, HasHop, IsSheetOf}
use Rattle.mr_proxy.specs.Sound.{ProxyStep, IsSoundPending, IsSound, WasGivenOut}
use Rattle.mr_proxy.specs.Sound.ProxyStep.{issues, takes, gives_up, restarts}
use Rattle.mr_proxy.specs.Transitions.{taken_of, after_take, after_give_up, after_restart}
use Rattle.mr_world.specs.declared.event.Event.{Event}
use Rattle.mr_world.specs.declared.event.Event.TheVariants.{Clock, Client, Deliver, Return, GiveUp, NodeRestart, ProxyRestart}
use Rattle.mr_world.specs.declared.message.Message.{Message}
use Rattle.mr_world.specs.declared.message.Delivery.{Delivery}
use Rattle.mr_world.specs.declared.node.Node.{Node}
use Rattle.mr_world.specs.declared.note.Note.{Note}
use Rattle.mr_world.specs.Lists.{Has}
use Rattle.mr_world.specs.Steps.{message_of, performed, answered, answered_by, Ticks, Issues, ClientAsks, Delivers, Returns, GivesUp, Empties, Restarts, WorldStep}
use Rattle.mr_world.specs.Positions.{node_number}
use Rattle.mr_world.specs.Tracked.{GoesWhereNamed, IsAtHome, IsUnanswered, IsWaiting, IsSent, LegsShareHops, IsGivenOut, IsTracked}
use Rattle.mr_world.specs.WorldView.{WorldView}
use Rattle.mr_world.proofs.Lists.{test_holds, has_cases, at_there, at_within, at_one, at_left, at_cases, at_last, at_new, has_one, has_none, has_map, at_set, at_kept, at_written, length_set, length_left, at_taken, at_none}
use Rattle.mr_world.proofs.ProxyLemmas.{step_keeps, AnswersPending, stays_after_take, taken_answers, stays_after_give_up, given_up_answers}

-- the laws of the layers below
pub record Laws : Type 0 where
  pub within : (most : ℕ) (readings : List ℕ) → (spread_of readings ≤ most) ↔ AreWithin most readings
  pub keep_sound : (old new : ProxyView) → IsSound old → ProxyStep old new → IsSound new
  pub next_is_new : (p : ProxyView) → WasGivenOut p (next_op p) → ⊥
  pub gives_next : (p : ProxyView) (t : ℕ) (request : Request) → WasGivenOut (after_issue p t request) (next_op p)
  pub for_good : (old new : ProxyView) (op : OpId) → WasGivenOut old op → ProxyStep old new → WasGivenOut new op
  pub says : (routing : RoutingView) (hops : List Hop) (op : OpId) (u : ℕ) (request : Request) (place : ℕ) (sheet : LegSheet)
      → slice_get (sheets_by routing hops op u request) place ≡ Some sheet → IsSheetOf routing hops op u request place sheet
  pub hop_within : (hops : List Hop) (t : ℕ) → 0 < length hops → hop_of hops t < length hops
  pub keep_form : (history : List Entry) (entry : Entry) → IsWellFormed history → Fits history entry → IsWellFormed (history ++ entry ∷ [])

-- histories that grow

pub was_left : {H : List Entry} {op : OpId} (K : List Entry) → WasIssued H op → WasIssued (H ++ K) op
was_left K was = record { place = was.place; request = was.request; issued = record { proxy = was.issued.proxy; there = at_left K was.issued.there } }

answered_cases : (H K : List Entry) {op : OpId} → WasAnswered (H ++ K) op → (WasAnswered H op) ⊎ ((reply : _) × Has K (entry.Answered op reply))
answered_cases H K was =
    elim (at_cases H K was.there) [
      | inl old ↦ inl (record { place = was.place; reply = was.reply; there = old })
      | inr new ↦ inr (was.reply, new.1)
    ]

-- at most one entry, that fits and issues nothing
pub data Fitting (H : List Entry) : List Entry → Type 0 where
  nothing : Fitting H []
  one : (e : Entry) → Fits H e → Fitting H (e ∷ [])

pub record IsQuiet (H K : List Entry) : Type 0 where
  pub fitting : Fitting H K
  pub no_issue : (op : OpId) (proxy : ℕ) (q : Request) → Has K (entry.Issued op proxy q) → ⊥

formed_grows : Laws → (H K : List Entry) → IsWellFormed H → Fitting H K → IsWellFormed (H ++ K)
formed_grows L H K formed nothing = subst IsWellFormed (sym (append-nil H)) formed
formed_grows L H K formed (one e fits) = L.keep_form H e formed fits

quiet_issued : {H K : List Entry} → IsQuiet H K → {op : OpId} → WasIssued (H ++ K) op → WasIssued H op
quiet_issued {H = H} {K = K} quiet {op = op} was =
    elim (at_cases H K was.issued.there) [
      | inl old ↦ record { place = was.place; request = was.request; issued = record { proxy = was.issued.proxy; there = old } }
      | inr new ↦ absurd (quiet.no_issue op was.issued.proxy was.request new.1)
    ]

unanswered_grows : {H K : List Entry} {op : OpId} → IsUnanswered H op → ((reply : _) → Has K (entry.Answered op reply) → ⊥) → IsUnanswered (H ++ K) op
unanswered_grows {H = H} {K = K} un none = record {
  issued = was_left K un.issued;
  unanswered = λ was. elim (answered_cases H K was) [ inl old ↦ un.unanswered old | inr new ↦ none (new.0) (new.1) ];
}

performed_fits : (H : List Entry) (sheet : LegSheet) (command : NodeCommand) → WasIssued H sheet.id.op → Fitting H (performed sheet command)
performed_fits H sheet (Get key) was = nothing
performed_fits H sheet (Set key flags exptime block) was = one _ was
performed_fits H sheet (Delete key) was = one _ was

pub no_issue_performed : (sheet : LegSheet) (command : NodeCommand) (op : OpId) (proxy : ℕ) (q : Request) → Has (performed sheet command) (entry.Issued op proxy q) → ⊥
no_issue_performed sheet (Get key) op proxy q h = has_none h
no_issue_performed sheet (Set key flags exptime block) op proxy q h = let e = has_one h in cc
no_issue_performed sheet (Delete key) op proxy q h = let e = has_one h in cc

pub no_answer_performed : (sheet : LegSheet) (command : NodeCommand) (op : OpId) (reply : _) → Has (performed sheet command) (entry.Answered op reply) → ⊥
no_answer_performed sheet (Get key) op reply h = has_none h
no_answer_performed sheet (Set key flags exptime block) op reply h = let e = has_one h in cc
no_answer_performed sheet (Delete key) op reply h = let e = has_one h in cc

pub performed_quiet : (H : List Entry) (sheet : LegSheet) (command : NodeCommand) → WasIssued H sheet.id.op → IsQuiet H (performed sheet command)
performed_quiet H sheet command was = record { fitting = performed_fits H sheet command was; no_issue = no_issue_performed sheet command }

answered_fits_if : (H : List Entry) (answer : AnswerView) (b : Bool) → IsUnanswered H answer.op
    → Fitting H (if b then [] else entry.Answered answer.op (reply_of answer) ∷ [])
answered_fits_if H answer true un = nothing
answered_fits_if H answer false un = one _ (un.issued, un.unanswered)

-- what an answer adds is its own entry
answered_one_if : (answer : AnswerView) (b : Bool) (e : Entry) → Has (if b then [] else entry.Answered answer.op (reply_of answer) ∷ []) e
    → e ≡ entry.Answered answer.op (reply_of answer)
answered_one_if answer true e h = has_none h
answered_one_if answer false e h = has_one h

pub answered_one : (answer : AnswerView) (e : Entry) → Has (answered answer) e → e ≡ entry.Answered answer.op (reply_of answer)
answered_one answer e h = answered_one_if answer (is_silent answer.request) e h

pub answered_quiet : (H : List Entry) (answer : AnswerView) → IsUnanswered H answer.op → IsQuiet H (answered answer)
answered_quiet H answer un = record {
  fitting = answered_fits_if H answer (is_silent answer.request) un;
  no_issue = λ op proxy q h. let e = answered_one answer _ h in cc;
}

answered_by_quiet : (H : List Entry) (t : Taken) → ((answer : AnswerView) → t ≡ taken.Answered answer → IsUnanswered H answer.op) → IsQuiet H (answered_by t)
answered_by_quiet H taken.Waiting un = record { fitting = nothing; no_issue = λ op proxy q h. has_none h }
answered_by_quiet H (taken.Answered answer) un = answered_quiet H answer (un answer refl)
answered_by_quiet H (taken.Stranger reply) un = record { fitting = nothing; no_issue = λ op proxy q h. has_none h }

answered_by_one : (t : Taken) (e : Entry) → Has (answered_by t) e → (answer : AnswerView) × (t ≡ taken.Answered answer) × (e ≡ entry.Answered answer.op (reply_of answer))
answered_by_one taken.Waiting e h = has_none h
answered_by_one (taken.Answered answer) e h = (answer, refl, answered_one answer e h)
answered_by_one (taken.Stranger reply) e h = has_none h

-- one proxy makes a step

module _ (L : Laws) where
  home_step : (nodes : List Node) (n : ℕ) (p q : ProxyView) → IsAtHome nodes n p → ProxyStep p q → IsAtHome nodes n q
  home_step nodes n p q home step =
      let keeps = step_keeps p q step in
      record {
        number = keeps.number ∙ home.number;
        sound = L.keep_sound p q home.sound step;
        named = subst (λ (r : RoutingView). (pool index : ℕ) → HasNode r pool index → node_number nodes (name_at r pool index) < length nodes) (sym keeps.routing) home.named;
      }

  home_set : (nodes : List Node) (P : List ProxyView) (n : ℕ) (p q : ProxyView) → At P n p → ProxyStep p q
      → ((k : ℕ) (x : ProxyView) → At P k x → IsAtHome nodes k x) → (k : ℕ) (x : ProxyView) → At (slice_set P n q) k x → IsAtHome nodes k x
  home_set nodes P n p q at step all k x there =
      elim (at_set P n q there) [
        | inl e ↦ subst (λ i. IsAtHome nodes i x) (sym e.0) (subst (λ (z : ProxyView). IsAtHome nodes n z) (sym e.1) (home_step nodes n p q (all n p at) step))
        | inr e ↦ all k x e.1
      ]

  given_set : (P : List ProxyView) (n : ℕ) (p q : ProxyView) → At P n p → ProxyStep p q → (op : OpId) → IsGivenOut P op → IsGivenOut (slice_set P n q) op
  given_set P n p q at step op g =
      elim (at_kept q at g.home) [
        | inl e ↦ record {
          proxy = q;
          home = subst (λ i. At (slice_set P n q) i q) (sym e.0) (at_written q at);
          given_out = L.for_good p q op (subst (λ (z : ProxyView). WasGivenOut z op) e.1 g.given_out) step;
        }
        | inr there ↦ record { proxy = g.proxy; home = there; given_out = g.given_out }
      ]

-- a request under way has its proxy's number
pending_home : (p : ProxyView) (i : ℕ) (x : PendingView) → IsSound p → At p.outstanding i x → x.op.proxy ≡ p.number
pending_home p i x s at =
    let below = at_within at in
    let sound = subst (λ (z : PendingView). IsSoundPending p z) (get_or_from_slice_get p.outstanding i x x at.gets) (s.pendings i x below) in
    sound.proxy

-- the requests of one proxy are unanswered still, and none of another proxy is answered
waiting_set : (nodes : List Node) (H K : List Entry) (P : List ProxyView) (n : ℕ) (p q : ProxyView) → At P n p
    → ((k : ℕ) (x : ProxyView) → At P k x → IsAtHome nodes k x)
    → ((pending : PendingView) → IsWaiting P pending → IsUnanswered H pending.op)
    → ((pending : PendingView) → Has q.outstanding pending → IsUnanswered (H ++ K) pending.op)
    → ((op : OpId) (reply : _) → Has K (entry.Answered op reply) → op.proxy ≡ n)
    → (pending : PendingView) → IsWaiting (slice_set P n q) pending → IsUnanswered (H ++ K) pending.op
waiting_set nodes H K P n p q at all old mine own pending w =
    elim (at_set P n q w.home) [
      | inl e ↦ mine pending (record { place = w.place; there = subst (λ (z : ProxyView). At z.outstanding w.place pending) e.1 w.there })
      | inr e ↦
          let home = all w.number w.proxy (e.1) in
          let number = pending_home w.proxy w.place pending home.sound w.there ∙ home.number in
          unanswered_grows (old pending (record { number = w.number; proxy = w.proxy; place = w.place; home = e.1; there = w.there }))
          (λ reply h. e.0 (sym number ∙ own pending.op reply h))
    ]

-- what was answered was issued
answered_issued : {H : List Entry} {op : OpId} → IsWellFormed H → WasAnswered H op → WasIssued H op
answered_issued {H = H} {op = op} formed was =
    let before = (formed.fits was.place _ was.there).0 in
    record { place = before.place; request = before.request; issued = record { proxy = before.issued.proxy; there = (at_taken was.place H before.issued.there).1 } }

-- nodes keep their names

pub number_written : (nodes : List Node) (k : ℕ) (old new : Node) (name : List ℕ) → slice_get nodes k ≡ Some old → new.name ≡ old.name
    → node_number (slice_set nodes k new) name ≡ node_number nodes name
number_written [] k old new name e same = refl
number_written (x ∷ nodes) zero old new name e same =
    let is : x ≡ old = cc in
    let named : new.name ≡ x.name = same ∙ ap (λ (z : Node). z.name) (sym is) in
    ap (λ n. cond (not (bytes_eq n name)) (1 + node_number nodes name) 0) named
number_written (x ∷ nodes) (suc k) old new name e same =
    ap (λ n. cond (not (bytes_eq x.name name)) (1 + n) 0) (number_written nodes k old new name e same)

home_nodes : (nodes : List Node) (k : ℕ) (old new : Node) (n : ℕ) (p : ProxyView) → At nodes k old → new.name ≡ old.name → IsAtHome nodes n p
    → IsAtHome (slice_set nodes k new) n p
home_nodes nodes k old new n p at same home = record {
  number = home.number;
  sound = home.sound;
  named = λ pool index has.
      let below = home.named pool index has in
      let number = number_written nodes k old new (name_at p.routing pool index) at.gets same in
      let count = length_set nodes k new in
      omega arith;
}

sent_nodes : (nodes : List Node) (H K : List Entry) (k : ℕ) (new : Node) (m : Message) → IsSent nodes H m → IsSent (slice_set nodes k new) (H ++ K) m
sent_nodes nodes H K k new m s = record { node = (let below = s.node in let count = length_set nodes k new in omega arith); issued = was_left K s.issued }

-- a leg goes to a node of its pool

pub pool_there : (routing : RoutingView) (hop : ℕ) (side : Side) → HasHop routing hop → pool_number hop side < length routing.pools
pool_there routing hop Old has = omega arith
pool_there routing hop New has = has

node_there : (routing : RoutingView) (sheet : LegSheet) (spot : ℕ) → IsRouting routing → HasHop routing sheet.hop
    → sheet.node ≡ spot % length (pool_of routing (pool_at sheet)) → HasNode routing (pool_at sheet) sheet.node
node_there routing sheet spot r has is =
    let there = pool_there routing sheet.hop sheet.side has in
    let size : 0 < length (pool_of routing (pool_at sheet)) = (let some = (r.sized (pool_at sheet) there).not_empty in omega arith) in
    let below = mod_below spot (length (pool_of routing (pool_at sheet))) size in
    record { pool = there; within = omega arith }

pub sheet_there : Laws → (p : ProxyView) (t : ℕ) (request : Request) (sheet : LegSheet) → IsSound p → Has (sheets_of p t request) sheet
    → HasNode p.routing (pool_at sheet) sheet.node × (sheet.id.op ≡ next_op p)
sheet_there L p t request sheet s h =
    let u = used_reading p.last t in
    let says = L.says p.routing p.schedule (next_op p) u request h.place sheet h.there.gets in
    let hop = L.hop_within p.schedule u s.schedule.begins in
    let many = s.hops in
    let has : HasHop p.routing (hop_of p.schedule u) = omega arith in (
      node_there p.routing sheet (spot_by p.routing.hash (key_of_command sheet.command)) s.routing (subst (HasHop p.routing) (sym says.hop) has) says.node,
      ap (λ (id : LegId). id.op) says.named,
    )

-- the legs of one request are in one hop

pub sheet_hop : Laws → (p : ProxyView) (t : ℕ) (request : Request) (sheet : LegSheet) → Has (sheets_of p t request) sheet
    → sheet.hop ≡ hop_of p.schedule (used_reading p.last t)
sheet_hop L p t request sheet h =
    (L.says p.routing p.schedule (next_op p) (used_reading p.last t) request h.place sheet h.there.gets).hop

-- messages go where they are named

goes_set : (nodes : List Node) (P : List ProxyView) (n : ℕ) (p q : ProxyView) (m : Message) → At P n p → q.routing ≡ p.routing → GoesWhereNamed P nodes m
    → GoesWhereNamed (slice_set P n q) nodes m
goes_set nodes P n p q m at same g =
    elim (at_kept q at g.home) [
      | inl e ↦ record {
        proxy = q;
        node = g.node;
        home = subst (λ i. At (slice_set P n q) i q) (sym (e.0)) (at_written q at);
        there = g.there;
        named = g.named ∙ ap (λ (r : RoutingView). name_at r (pool_at m.sheet) m.sheet.node) (ap (λ (x : ProxyView). x.routing) (e.1) ∙ sym same);
      }
      | inr there ↦ record { proxy = g.proxy; node = g.node; home = there; there = g.there; named = g.named }
    ]

goes_nodes : (P : List ProxyView) (nodes : List Node) (k : ℕ) (old new : Node) (m : Message) → At nodes k old → new.name ≡ old.name → GoesWhereNamed P nodes m
    → GoesWhereNamed P (slice_set nodes k new) m
goes_nodes P nodes k old new m at same g =
    elim (at_kept new at g.there) [
      | inl e ↦ record {
        proxy = g.proxy;
        node = new;
        home = g.home;
        there = subst (λ i. At (slice_set nodes k new) i new) (sym (e.0)) (at_written new at);
        named = same ∙ ap (λ (x : Node). x.name) (sym (e.1)) ∙ g.named;
      }
      | inr there ↦ record { proxy = g.proxy; node = g.node; home = g.home; there = there; named = g.named }
    ]

-- the node at the number of a name has that name
pub number_named : (nodes : List Node) (name : List ℕ) (node : Node) → At nodes (node_number nodes name) node → node.name ≡ name
number_named nodes name node at =
    (bytes_eq-Decides node.name name).0 (test_holds (λ (x : Node). bytes_eq x.name name) nodes node at.gets)

-- the entries that are pushed fit

pub issue_fits : ((p : ProxyView) → WasGivenOut p (next_op p) → ⊥) → (w : WorldView) (n : ℕ) (p : ProxyView) (q : Request) → IsTracked w → At w.proxies n p → Fits w.history (entry.Issued (next_op p) n q)
issue_fits new w n p q t at =
    let home = t.proxies n p at in (
      home.number,
      λ was.
          let g = t.given_out (next_op p) was in
          let same : g.proxy ≡ p = at_one g.home (subst (λ i. At w.proxies i p) (sym home.number) at) in
          new p (subst (λ (z : ProxyView). WasGivenOut z (next_op p)) same g.given_out),
    )

pub answer_waits : (w : WorldView) (n : ℕ) (p : ProxyView) (answer : AnswerView) → IsTracked w → At w.proxies n p → AnswersPending p answer → IsUnanswered w.history answer.op
answer_waits w n p answer t at a =
    subst (IsUnanswered w.history) (sym a.same_op) (t.waiting a.pending (record { number = n; proxy = p; place = a.place; home = at; there = a.there }))

-- what each event keeps

ticks_tracked : Laws → (w : WorldView) (number reading : ℕ) (note : Note) (new : WorldView) → Ticks w number reading note new → IsTracked w → IsTracked new
ticks_tracked L w number reading note new step t =
    let standing = slice_set w.readings.standing number reading in
    let spread = max w.readings.spread (spread_of standing) in
    let bound : spread_of standing ≤ spread = omega arith in
    subst IsTracked (sym step.becomes) (record {
      clocks = length_set w.readings.standing number reading ∙ t.clocks;
      within = (L.within spread standing).0 bound;
      proxies = t.proxies;
      sent = t.sent;
      goes = t.goes;
      hops = t.hops;
      replies = t.replies;
      formed = t.formed;
      given_out = t.given_out;
      waiting = t.waiting;
    })

module _ (L : Laws) where
  -- an op that is issued now was not issued before
  not_sent : (w : WorldView) (n : ℕ) (p : ProxyView) (q : Request) → IsTracked w → At w.proxies n p → (m : Message) → Has w.sent m → m.sheet.id.op ≡ next_op p → ⊥
  not_sent w n p q t at m has is =
      let fits = issue_fits L.next_is_new w n p q t at in
      fits.1 (subst (WasIssued w.history) is (t.sent has.place m has.there).issued)

  issued_hops : (w : WorldView) (n : ℕ) (q : Request) (p : ProxyView) (u : ℕ) → IsTracked w → At w.proxies n p
      → LegsShareHops (w.sent ++ map (message_of w.nodes p.routing) (sheets_of p u q))
  issued_hops w n q p u t at m k has has' same =
      let sent = map (message_of w.nodes p.routing) (sheets_of p u q) in
      let home = t.proxies n p at in
      let of_new : (x : Message) → Has sent x → (x.sheet.id.op ≡ next_op p) × (x.sheet.hop ≡ hop_of p.schedule (used_reading p.last u)) =
      λ x there.
      let (sheet, from, is) = has_map (message_of w.nodes p.routing) (sheets_of p u q) there in
      subst (λ (x : Message). (x.sheet.id.op ≡ next_op p) × (x.sheet.hop ≡ hop_of p.schedule (used_reading p.last u))) (sym is)
      ((sheet_there L p u q sheet home.sound from).1, sheet_hop L p u q sheet from) in
      elim (has_cases w.sent sent has) [
        | inl old ↦ elim (has_cases w.sent sent has') [
          | inl old' ↦ t.hops m k old old' same
          | inr new' ↦ absurd (not_sent w n p q t at m old (same ∙ (of_new k new').0))
        ]
        | inr new ↦ elim (has_cases w.sent sent has') [
          | inl old' ↦ absurd (not_sent w n p q t at k old' (sym same ∙ (of_new m new).0))
          | inr new' ↦ (of_new m new).1 ∙ sym (of_new k new').1
        ]
      ]

  issues_tracked : (w : WorldView) (n : ℕ) (q : Request) (note : Note) (new : WorldView) → Issues w n q note new → IsTracked w → IsTracked new
  issues_tracked w n q note new step t =
      let p = step.proxy in
      let u = step.reading in
      let op = next_op p in
      let after = after_issue p u q in
      let e : Entry = entry.Issued op n q in
      let home = t.proxies n p step.home in
      let fits = issue_fits L.next_is_new w n p q t step.home in
      let pstep : ProxyStep p after = issues u q step.has_legs step.accepted in
      let was : WasIssued (w.history ++ e ∷ []) op = record { place = length w.history; request = q; issued = record { proxy = n; there = at_new w.history e } } in
      let none : (op' : OpId) (reply : _) → Has (e ∷ []) (entry.Answered op' reply) → ⊥ = λ op' reply h. (let is = has_one h in cc) in
      subst IsTracked (sym step.becomes) (record {
        clocks = t.clocks ∙ sym (length_set w.proxies n after);
        within = t.within;
        proxies = home_set L w.nodes w.proxies n p after step.home pstep t.proxies;
        sent = λ k m there. elim (at_cases w.sent (map (message_of w.nodes p.routing) (sheets_of p u q)) there) [
          | inl old ↦ let s = t.sent k m old in record { node = s.node; issued = was_left (e ∷ []) s.issued }
          | inr fresh ↦
              let (sheet, has, is) = has_map (message_of w.nodes p.routing) (sheets_of p u q) (fresh.1) in
              let there = sheet_there L p u q sheet home.sound has in
              subst (IsSent w.nodes (w.history ++ e ∷ [])) (sym is)
              (record { node = home.named (pool_at sheet) sheet.node (there.0); issued = subst (WasIssued (w.history ++ e ∷ [])) (sym (there.1)) was })
        ];
        goes = λ k m there. elim (at_cases w.sent (map (message_of w.nodes p.routing) (sheets_of p u q)) there) [
          | inl old ↦ goes_set w.nodes w.proxies n p after m step.home refl (t.goes k m old)
          | inr fresh ↦
              let (sheet, has, is) = has_map (message_of w.nodes p.routing) (sheets_of p u q) (fresh.1) in
              let there = sheet_there L p u q sheet home.sound has in
              let name = name_at p.routing (pool_at sheet) sheet.node in
              let (node, at) = at_there w.nodes (node_number w.nodes name) (home.named (pool_at sheet) sheet.node (there.0)) in
              let place : sheet.id.op.proxy ≡ n = ap (λ (o : OpId). o.proxy) (there.1) ∙ home.number in
              subst (GoesWhereNamed (slice_set w.proxies n after) w.nodes) (sym is) (record {
                proxy = after;
                node = node;
                home = subst (λ i. At (slice_set w.proxies n after) i after) (sym place) (at_written after step.home);
                there = at;
                named = number_named w.nodes name node at;
              })
        ];
        hops = issued_hops w n q p u t step.home;
        replies = λ k d there. (let below = t.replies k d there in let longer = length_left w.sent (map (message_of w.nodes p.routing) (sheets_of p u q)) in omega arith);
        formed = L.keep_form w.history e t.formed fits;
        given_out = λ op' was'. elim (at_last w.history e was'.issued.there) [
          | inl old ↦ given_set L w.proxies n p after step.home pstep op'
              (t.given_out op' (record { place = was'.place; request = was'.request; issued = record { proxy = was'.issued.proxy; there = old } }))
          | inr fresh ↦
              let same : op' ≡ op = let is = fresh.1 in cc in
              subst (IsGivenOut (slice_set w.proxies n after)) (sym same) (record {
                proxy = after;
                home = subst (λ i. At (slice_set w.proxies n after) i after) (sym home.number) (at_written after step.home);
                given_out = L.gives_next p u q;
              })
        ];
        waiting = waiting_set w.nodes w.history (e ∷ []) w.proxies n p after step.home t.proxies t.waiting
            (λ pending h. elim (at_last p.outstanding (pending_of p u q) h.there) [
              | inl old ↦ unanswered_grows (t.waiting pending (record { number = n; proxy = p; place = h.place; home = step.home; there = old })) (none pending.op)
              | inr fresh ↦
                  subst (λ (x : PendingView). IsUnanswered (w.history ++ e ∷ []) x.op) (sym (fresh.1)) (record {
                    issued = was;
                    unanswered = λ ans. elim (answered_cases w.history (e ∷ []) ans) [
                      | inl old ↦ fits.1 (answered_issued t.formed old)
                      | inr fresh ↦ none op (fresh.0) (fresh.1)
                    ];
                  })
            ])
            (λ op' reply h. absurd (none op' reply h));
      })

  delivers_tracked : (w : WorldView) (n now : ℕ) (note : Note) (new : WorldView) → Delivers w n now note new → IsTracked w → IsTracked new
  delivers_tracked w n now note new step t =
      let m = step.message in
      let K = performed m.sheet m.sheet.command in
      let s = t.sent n m step.sent in
      let quiet = performed_quiet w.history m.sheet m.sheet.command s.issued in
      let node : Node = record { name = step.node.name; cache = step.left } in
      let delivery : Delivery = record { message = n; reply = step.reply } in
      subst IsTracked (sym step.becomes) (record {
        clocks = t.clocks;
        within = t.within;
        proxies = λ k p there. home_nodes w.nodes m.node step.node node k p step.there refl (t.proxies k p there);
        sent = λ k x there. sent_nodes w.nodes w.history K m.node node x (t.sent k x there);
        goes = λ k x there. goes_nodes w.proxies w.nodes m.node step.node node x step.there refl (t.goes k x there);
        hops = t.hops;
        replies = λ k d there. elim (at_last w.replies delivery there) [
          | inl old ↦ t.replies k d old
          | inr fresh ↦ let below = at_within step.sent in let same = ap (λ (x : Delivery). x.message) (fresh.1) in omega arith
        ];
        formed = formed_grows L w.history K t.formed quiet.fitting;
        given_out = λ op was. t.given_out op (quiet_issued quiet was);
        waiting = λ pending waits. unanswered_grows (t.waiting pending waits) (no_answer_performed m.sheet m.sheet.command pending.op);
      })

  returns_tracked : (w : WorldView) (n : ℕ) (note : Note) (new : WorldView) → Returns w n note new → IsTracked w → IsTracked new
  returns_tracked w n note new step t =
      let p = step.proxy in
      let id = step.message.sheet.id in
      let after = after_take p id step.reply in
      let took = taken_of p id step.reply in
      let K = answered_by took in
      let home = t.proxies step.sender p step.home in
      let pstep : ProxyStep p after = takes id step.reply in
      let quiet = answered_by_quiet w.history took (λ answer is. answer_waits w step.sender p answer t step.home (taken_answers p id step.reply answer is)) in
      subst IsTracked (sym step.becomes) (record {
        clocks = t.clocks ∙ sym (length_set w.proxies step.sender after);
        within = t.within;
        proxies = home_set L w.nodes w.proxies step.sender p after step.home pstep t.proxies;
        sent = λ k x there. (let s = t.sent k x there in record { node = s.node; issued = was_left K s.issued });
        goes = λ k x there. goes_set w.nodes w.proxies step.sender p after x step.home (step_keeps p after pstep).routing (t.goes k x there);
        hops = t.hops;
        replies = t.replies;
        formed = formed_grows L w.history K t.formed quiet.fitting;
        given_out = λ op was. given_set L w.proxies step.sender p after step.home pstep op (t.given_out op (quiet_issued quiet was));
        waiting = waiting_set w.nodes w.history K w.proxies step.sender p after step.home t.proxies t.waiting
            (λ pending h.
            let stays = stays_after_take p id step.reply pending home.sound h in
            subst (IsUnanswered (w.history ++ K)) stays.same_op
            (unanswered_grows
            (t.waiting stays.pending (record { number = step.sender; proxy = p; place = stays.place; home = step.home; there = stays.there }))
            (λ reply k.
            let (answer, is, same) = answered_by_one took _ k in
            let named : stays.pending.op ≡ answer.op = cc in
            stays.stays (answer, is, sym named ∙ stays.same_op))))
            (λ op reply k.
            let (answer, is, same) = answered_by_one took _ k in
            let a = taken_answers p id step.reply answer is in
            let named : op ≡ answer.op = cc in
            let number = pending_home p a.place a.pending home.sound a.there in
            ap (λ (o : OpId). o.proxy) (named ∙ a.same_op) ∙ number ∙ home.number);
      })

  gives_up_tracked : (w : WorldView) (op : OpId) (note : Note) (new : WorldView) → GivesUp w op note new → IsTracked w → IsTracked new
  gives_up_tracked w op note new step t =
      let p = step.proxy in
      let after = after_give_up p op in
      let K = answered step.answer in
      let home = t.proxies op.proxy p step.home in
      let pstep : ProxyStep p after = gives_up op in
      let a = given_up_answers p op step.answer step.gives in
      let quiet = answered_quiet w.history step.answer (answer_waits w op.proxy p step.answer t step.home a) in
      subst IsTracked (sym step.becomes) (record {
        clocks = t.clocks ∙ sym (length_set w.proxies op.proxy after);
        within = t.within;
        proxies = home_set L w.nodes w.proxies op.proxy p after step.home pstep t.proxies;
        sent = λ k x there. (let s = t.sent k x there in record { node = s.node; issued = was_left K s.issued });
        goes = λ k x there. goes_set w.nodes w.proxies op.proxy p after x step.home (step_keeps p after pstep).routing (t.goes k x there);
        hops = t.hops;
        replies = t.replies;
        formed = formed_grows L w.history K t.formed quiet.fitting;
        given_out = λ other was. given_set L w.proxies op.proxy p after step.home pstep other (t.given_out other (quiet_issued quiet was));
        waiting = waiting_set w.nodes w.history K w.proxies op.proxy p after step.home t.proxies t.waiting
            (λ pending h.
            let stays = stays_after_give_up p op step.answer pending home.sound step.gives h in
            subst (IsUnanswered (w.history ++ K)) stays.same_op
            (unanswered_grows
            (t.waiting stays.pending (record { number = op.proxy; proxy = p; place = stays.place; home = step.home; there = stays.there }))
            (λ reply k.
            let same = answered_one step.answer _ k in
            let named : stays.pending.op ≡ step.answer.op = cc in
            stays.stays (sym named ∙ stays.same_op))))
            (λ other reply k.
            let same = answered_one step.answer _ k in
            let named : other ≡ step.answer.op = cc in
            let number = pending_home p a.place a.pending home.sound a.there in
            ap (λ (o : OpId). o.proxy) (named ∙ a.same_op) ∙ number ∙ home.number);
      })

  empties_tracked : (w : WorldView) (name : List ℕ) (note : Note) (new : WorldView) → Empties w name note new → IsTracked w → IsTracked new
  empties_tracked w name note new step t =
      let node : Node = record { name = step.node.name; cache = record step.node.cache { items = [] } } in
      let k = node_number w.nodes name in
      subst IsTracked (sym step.becomes) (record {
        clocks = t.clocks;
        within = t.within;
        proxies = λ i p there. home_nodes w.nodes k step.node node i p step.there refl (t.proxies i p there);
        sent = λ i m there. (let s = t.sent i m there in record { node = (let below = s.node in let count = length_set w.nodes k node in omega arith); issued = s.issued });
        goes = λ i m there. goes_nodes w.proxies w.nodes k step.node node m step.there refl (t.goes i m there);
        hops = t.hops;
        replies = t.replies;
        formed = t.formed;
        given_out = t.given_out;
        waiting = t.waiting;
      })

  restarts_tracked : (w : WorldView) (n : ℕ) (note : Note) (new : WorldView) → Restarts w n note new → IsTracked w → IsTracked new
  restarts_tracked w n note new step t =
      let p = step.proxy in
      let after = after_restart p in
      let pstep : ProxyStep p after = restarts in
      subst IsTracked (sym step.becomes) (record {
        clocks = t.clocks ∙ sym (length_set w.proxies n after);
        within = t.within;
        proxies = home_set L w.nodes w.proxies n p after step.home pstep t.proxies;
        sent = t.sent;
        goes = λ k m there. goes_set w.nodes w.proxies n p after m step.home refl (t.goes k m there);
        hops = t.hops;
        replies = t.replies;
        formed = t.formed;
        given_out = λ op was. given_set L w.proxies n p after step.home pstep op (t.given_out op was);
        waiting = λ pending waits. elim (at_set w.proxies n after waits.home) [
          | inl e ↦ at_none (subst (λ (z : ProxyView). At z.outstanding waits.place pending) (e.1) waits.there)
          | inr e ↦ t.waiting pending (record { number = waits.number; proxy = waits.proxy; place = waits.place; home = e.1; there = waits.there })
        ];
      })

  asks_tracked : (w : WorldView) (n : ℕ) (q : Request) (note : Note) (new : WorldView) → ClientAsks w n q note new → IsTracked w → IsTracked new
  asks_tracked w n (request.Get keys) note new step t = issues_tracked w n (request.Get keys) note new step t
  asks_tracked w n (request.Set key flags exptime block noreply) note new step t = issues_tracked w n (request.Set key flags exptime block noreply) note new step t
  asks_tracked w n (request.Delete key noreply) note new step t = issues_tracked w n (request.Delete key noreply) note new step t
  asks_tracked w n request.Quit note new step t = subst IsTracked (sym step.becomes) t

  pub step_tracked : (w : WorldView) (event : Event) (note : Note) (new : WorldView) → WorldStep w event note new → IsTracked w → IsTracked new
  step_tracked w (Clock proxy reading) note new step t = ticks_tracked L w proxy reading note new step t
  step_tracked w (Client proxy request) note new step t = asks_tracked w proxy request note new step t
  step_tracked w (Deliver message now) note new step t = delivers_tracked w message now note new step t
  step_tracked w (Return reply) note new step t = returns_tracked w reply note new step t
  step_tracked w (GiveUp op) note new step t = gives_up_tracked w op note new step t
  step_tracked w (NodeRestart node) note new step t = empties_tracked w node note new step t
  step_tracked w (ProxyRestart proxy) note new step t = restarts_tracked w proxy note new step t
