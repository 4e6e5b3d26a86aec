-- A request that is accepted keeps what the headline rests on.
use Rattle.std.proofs.Common.{◌≡◌, ℕ, ◌+◌, ◌<◌, ◌≤◌, Bool, List, [], ◌∷◌, ◌++◌, length, map, Option, Some, None, Contains, slice_get, refl, sym, ap, subst, ◌∙◌, inl, inr, arith}
use Rattle.mr_text.specs.declared.item.Item.{Item}
use Rattle.mr_text.specs.declared.request.Request.{Request}
use Rattle.mr_text.specs.declared.request.Request.TheVariants as request
use Rattle.mr_history.specs.declared.op_id.OpId.{OpId}
use Rattle.mr_history.specs.declared.entry.Author.TheVariants.{By}
use Rattle.mr_history.specs.declared.entry.Entry.{Entry}
use Rattle.mr_history.specs.declared.entry.Entry.TheVariants as entry
use Rattle.mr_history.specs.History.{IsIssued, WasIssued, IsSafe, IsWellFormed}
use Rattle.mr_history.specs.Places.{At}
use Rattle.mr_join.specs.declared.leg_reply.LegReply.{LegReply}
use Rattle.mr_node.specs.Command.{key_of_command}
use Rattle.mr_node.specs.declared.command.NodeCommand.{NodeCommand}
use Rattle.mr_node.specs.declared.command.NodeCommand.TheVariants.{Get, Set, Delete}
use Rattle.mr_phases.specs.Pools.{read_pool, delete_pools}
use Rattle.mr_phases.specs.Schedule.{Hop, IsChain, hop_of, least_interval}
use Rattle.mr_pools.specs.Names.{name_at}
use Rattle.mr_proxy.specs.declared.sheet.LegId.{LegId}
use Rattle.mr_proxy.specs.declared.sheet.LegSheet.{LegSheet}
use Rattle.mr_proxy.specs.Issue.{next_op, used_reading, sheets_of}
use Rattle.mr_proxy.specs.ProxyView.{ProxyView}
use Rattle.mr_proxy.specs.Sheets.{pool_at, HasHop, GoesBy}
use Rattle.mr_world.specs.declared.message.Message.{Message}
use Rattle.mr_world.specs.Facts.{CameBack}
use Rattle.mr_world.specs.Ground.{SetSent, DeleteSent, LegUpTo, LegFrom, IsHeld, GetComesLater, SetsAreReached, DeletesReachDown, SetsComeLater, GetsComeLater, home_of}
use Rattle.mr_world.specs.Grounded.{IsGrounded}
use Rattle.mr_world.specs.Lists.{Has}
use Rattle.mr_world.specs.Positions.{node_number}
use Rattle.mr_world.specs.Steps.{message_of}
use Rattle.mr_world.specs.Tracked.{IsTracked}
use Rattle.mr_world.specs.WorldView.{WorldView}
use Rattle.mr_world.proofs.Lists.{at_left, at_before, at_last, at_new, at_taken, at_within, has_right, has_cases, has_map, has_mapped}
use Rattle.mr_world.proofs.FactLemmas.{issue_before}
use Rattle.mr_world.proofs.TrackedLemmas.{pool_there}
use Rattle.mr_world.proofs.GroundLaws.{GroundLaws, delete_grows, source_grows, get_grows, issued_early, hits_more, safe_quiet}

-- a last reading that isn't ahead of its clock changes nothing
pub used_is : (last : Option ℕ) (t : ℕ) → ((before : ℕ) → last ≡ Some before → before ≤ t) → used_reading last t ≡ t
used_is None t past = refl
used_is (Some before) t past = let below = past before refl in omega arith

-- the pool of a get or a set
get_goes : (hops : List Hop) (u pool : ℕ) (c : NodeCommand) (key : List ℕ) → GoesBy hops u pool c → c ≡ Get key → pool ≡ read_pool hops u
get_goes hops u pool (Get key') key goes is = goes
get_goes hops u pool (Set key' flags exptime block) key goes is = cc
get_goes hops u pool (Delete key') key goes is = cc

set_goes : (hops : List Hop) (u pool : ℕ) (c : NodeCommand) (key : List ℕ) (flags : ℕ) (exptime : _) (block : List ℕ) → GoesBy hops u pool c → c ≡ Set key flags exptime block
    → pool ≡ read_pool hops u
set_goes hops u pool (Get key') key flags exptime block goes is = cc
set_goes hops u pool (Set key' f e b) key flags exptime block goes is = goes
set_goes hops u pool (Delete key') key flags exptime block goes is = cc

-- an op that stored or removed was issued
stored_issued : {H : List Entry} {op : OpId} {key : List ℕ} {flags : ℕ} {block : List ℕ} {place : ℕ} → IsWellFormed H → At H place (entry.Stored (By op) key flags block) → WasIssued H op
stored_issued {H = H} {place = place} formed at =
    let was = formed.fits place _ at in
    record { place = was.place; request = was.request; issued = record { proxy = was.issued.proxy; there = (at_taken place H was.issued.there).1 } }

removed_issued : {H : List Entry} {op : OpId} {side : _} {key : List ℕ} {place : ℕ} → IsWellFormed H → At H place (entry.Removed op side key) → WasIssued H op
removed_issued {H = H} {place = place} formed at =
    let was = formed.fits place _ at in
    record { place = was.place; request = was.request; issued = record { proxy = was.issued.proxy; there = (at_taken place H was.issued.there).1 } }

-- number: the proxy's; u: its clock's reading
module _ (L : GroundLaws) (w : WorldView) (number u : ℕ) (p : ProxyView) (q : Request) (track : IsTracked w) (clock : At w.readings.standing number u)
    (past : (last : ℕ) → p.last ≡ Some last → last ≤ u) (near : w.readings.spread ≤ w.terms.least) (g : IsGrounded p.routing p.schedule w)
    (grown : IsWellFormed (w.history ++ entry.Issued (next_op p) number q ∷ [])) where
  abbrev op : OpId
  op = next_op p

  abbrev H : List Entry
  H = w.history

  abbrev S : List Message
  S = w.sent

  abbrev K : List Entry
  K = entry.Issued op number q ∷ []

  abbrev sheets : List LegSheet
  sheets = sheets_of p u q

  abbrev T : List Message
  T = map (message_of w.nodes p.routing) sheets

  abbrev hops : List Hop
  hops = p.schedule

  now : used_reading p.last u ≡ u
  now = used_is p.last u past

  chain : IsChain hops
  chain = g.plan.schedule.chain

  issued : IsIssued (H ++ K) op q (length H)
  issued = record { proxy = number; there = at_new H (entry.Issued op number q) }

  fresh : WasIssued H op → ⊥
  fresh was =
      issue_before grown (record { proxy = was.issued.proxy; there = at_left K was.issued.there }) issued (at_within was.issued.there)

  old_op : (x : OpId) → WasIssued H x → x ≡ op → ⊥
  old_op x was same = fresh (subst (WasIssued H) same was)

  -- what a new message is
  record IsNew (m : Message) : Type 0 where
    pub sheet : LegSheet
    pub has_sheet : Has sheets sheet
    pub is : m ≡ message_of w.nodes p.routing sheet
    pub of_op : m.sheet.id.op ≡ op
    pub goes : GoesBy hops u (pool_at m.sheet) m.sheet.command
    pub node : m.node ≡ home_of w.nodes p.routing (pool_at m.sheet) (key_of_command m.sheet.command)

  new_message : (m : Message) → Has T m → IsNew m
  new_message m has =
      let (sheet, there, is) = has_map (message_of w.nodes p.routing) sheets has in
      let says = L.says p.routing hops op (used_reading p.last u) q there.place sheet there.there.gets in
      let by = L.goes_by p.routing hops op (used_reading p.last u) q there.place sheet there.there.gets in
      subst IsNew (sym is) (record {
        sheet = sheet;
        has_sheet = there;
        is = refl;
        of_op = ap (λ (id : LegId). id.op) says.named;
        goes = subst (λ t. GoesBy hops t (pool_at sheet) sheet.command) now by;
        node = ap (λ index. node_number w.nodes (name_at p.routing (pool_at sheet) index)) says.node;
      })

  is_near : (n c : ℕ) → At w.readings.standing n c → (u ≤ c + least_interval hops) × (c ≤ u + least_interval hops)
  is_near n c there =
      let above = track.within number n u c clock.gets there.gets in
      let below = track.within n number c u there.gets clock.gets in
      let least = g.least in
      (omega arith, omega arith)

  -- a leg of the new delete
  new_leg : (key : List ℕ) (noreply : Bool) (pool : ℕ) (Goal : ℕ → Type 0) → q ≡ request.Delete key noreply → Contains (delete_pools hops u) pool → Goal pool
      → DeleteSent (S ++ T) op key Goal
  new_leg key noreply pool Goal is among goal =
      let leg = L.deletes p.routing hops op (used_reading p.last u) key noreply pool (subst (λ t. Contains (delete_pools hops t) pool) (sym now) among) in
      let there : Has sheets leg.sheet = record { place = leg.place; there = record { gets = subst (λ x. slice_get (sheets_of p u x) leg.place ≡ Some leg.sheet) (sym is) leg.there } } in
      record {
        message = message_of w.nodes p.routing leg.sheet;
        has = has_right S (has_mapped (message_of w.nodes p.routing) sheets there);
        same_op = leg.same_op;
        command = leg.command;
        pool = subst Goal (sym leg.same_pool) goal;
      }

  old_set : {by : OpId} {item : Item} {pool : ℕ} → (s : SetSent (S ++ T) by item pool) → Has S s.message → SetSent S by item pool
  old_set s has = record { message = s.message; has = has; same_op = s.same_op; exptime = s.exptime; command = s.command; pool = s.pool }

  new_reached : SetsAreReached hops w.readings.standing (S ++ T)
  new_reached by item pool n c set reading = elim (has_cases S T set.has) [
    | inl old ↦ g.reached by item pool n c (old_set set old) reading
    | inr fresh_set ↦
        let m = new_message set.message fresh_set in
        let reads : pool ≡ read_pool hops u = sym set.pool ∙ set_goes hops u (pool_at set.message.sheet) set.message.sheet.command _ _ _ _ m.goes set.command in
        let both = is_near n c reading in
        record { found = read_pool hops u; has = L.overlap hops u c chain (both.0) (both.1); from = omega arith }
  ]

  new_down : DeletesReachDown hops w.readings.standing (S ++ T) (H ++ K)
  new_down d key noreply issue n c was reading = elim (at_last H (entry.Issued op number q) was.there) [
    | inl old ↦ delete_grows T (g.reach_down d key noreply issue n c (record { proxy = was.proxy; there = old }) reading)
    | inr last ↦
        let e = last.1 in
        let same : op ≡ d = cc in
        let is : q ≡ request.Delete key noreply = cc in
        let both = is_near n c reading in
        let pool = read_pool hops c in
        subst (λ x. LegUpTo (S ++ T) x key pool) same
        (new_leg key noreply pool (λ goal. goal ≤ pool) is (L.overlap hops c u chain (both.1) (both.0)) (omega arith))
  ]

  new_sets_later : SetsComeLater (S ++ T) (H ++ K)
  new_sets_later by d item stored pool place issue key noreply set at was = elim (at_last H (entry.Issued op number q) at) [
    | inl here ↦ elim (has_cases S T set.has) [
      | inl old ↦ elim (at_last H (entry.Issued op number q) was.there) [
        | inl before ↦ elim (g.sets_later by d item stored pool place issue key noreply (old_set set old) here (record { proxy = was.proxy; there = before })) [
          | inl less ↦ inl less
          | inr from ↦ inr (delete_grows T from)
        ]
        | inr last ↦
            let e = last.1 in
            let same : op ≡ d = cc in
            let is : q ≡ request.Delete key noreply = cc in
            let up = g.reached by item pool number u (old_set set old) clock in
            inr (subst (λ x. LegFrom (S ++ T) x key pool) same (new_leg key noreply up.found (λ goal. pool ≤ goal) is up.has up.from))
      ]
      | inr fresh_set ↦ absurd (old_op by (stored_issued track.formed here) (sym set.same_op ∙ (new_message set.message fresh_set).of_op))
    ]
    | inr last ↦ (let e = last.1 in cc)
  ]

  new_get : (m : Message) (key : List ℕ) → IsNew m → m.sheet.command ≡ Get key → GetComesLater (S ++ T) (H ++ K) m
  new_get m key new is = record {
    was = record { place = length H; request = q; issued = subst (λ x. IsIssued (H ++ K) x q (length H)) (sym new.of_op) issued };
    not_above = λ d other noreply issue was early.
        let leg = g.reach_down d other noreply issue number u (issued_early K was early) clock in
        subst (LegUpTo (S ++ T) d other) (sym (get_goes hops u (pool_at m.sheet) m.sheet.command key new.goes is)) (delete_grows T leg);
  }

  new_gets_later : GetsComeLater (S ++ T) (H ++ K)
  new_gets_later m key has is = elim (has_cases S T has) [
    | inl old ↦ get_grows T K (g.gets_later m key old is)
    | inr new ↦ new_get m key (new_message m new) is
  ]

  new_held : (pool : ℕ) (item : Item) → IsHeld S H pool item → IsHeld (S ++ T) (H ++ K) pool item
  new_held pool item h = record {
    by = h.by;
    place = h.place;
    stored = at_left K h.stored;
    source = source_grows T h.source;
    unremoved = λ m gone has there at. elim (at_last H (entry.Issued op number q) at) [
      | inl old ↦ elim (has_cases S T has) [
        | inl before ↦ h.unremoved m gone before there old
        | inr new ↦ absurd (old_op m.sheet.id.op (removed_issued track.formed old) (new_message m new).of_op)
      ]
      | inr last ↦ (let e = last.1 in cc)
    ];
  }

  came_old : (m : Message) (r : LegReply) → CameBack (S ++ T) w.replies m r → CameBack S w.replies m r
  came_old m r c =
      record { number = c.number; from = c.from; came = c.came; was_sent = at_before S T c.was_sent (track.replies c.number (record { message = c.from; reply = r }) c.came) }

  new_pools : (m : Message) → Has (S ++ T) m → pool_at m.sheet < length p.routing.pools
  new_pools m has = elim (has_cases S T has) [
    | inl old ↦ g.pools m old
    | inr new ↦
        let (sheet, there, is) = has_map (message_of w.nodes p.routing) sheets new in
        let says = L.says p.routing hops op (used_reading p.last u) q there.place sheet there.there.gets in
        let within = L.hop_within hops (used_reading p.last u) g.plan.schedule.begins in
        let many = g.plan.chain in
        let has_hop : HasHop p.routing (hop_of hops (used_reading p.last u)) = omega arith in
        subst (λ (x : Message). pool_at x.sheet < length p.routing.pools) (sym is)
        (pool_there p.routing sheet.hop sheet.side (subst (HasHop p.routing) (sym says.hop) has_hop))
  ]

  new_goes : (m : Message) → Has (S ++ T) m → m.node ≡ home_of w.nodes p.routing (pool_at m.sheet) (key_of_command m.sheet.command)
  new_goes m has = elim (has_cases S T has) [ inl old ↦ g.goes m old | inr new ↦ (new_message m new).node ]

  pub issued_grounded : (P : List ProxyView) → IsGrounded p.routing p.schedule (record w { proxies = P; sent = S ++ T; history = H ++ K })
  issued_grounded P = record {
    plan = g.plan;
    least = g.least;
    pools = new_pools;
    goes = new_goes;
    reached = new_reached;
    reach_down = new_down;
    sets_later = new_sets_later;
    gets_later = new_gets_later;
    held = λ pool node key datum below at holds. new_held pool _ (g.held pool node key datum below at holds);
    fresh = λ m flags block c. hits_more L S w.replies H K grown g.fresh m flags block (came_old m _ c);
  }

  pub issued_safe : IsSafe H → IsSafe (H ++ K)
  issued_safe safe = safe_quiet L H (entry.Issued op number q) grown safe (λ get reply e. cc)
