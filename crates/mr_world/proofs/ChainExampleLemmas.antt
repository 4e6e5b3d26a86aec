-- The run of a chain of two migrations, event by event: each fleet is what the definitions make of the one before.
use Rattle.std.proofs.Common.{◌≡◌, ℕ, zero, suc, ◌+◌, ◌*◌, ◌^◌, ◌<◌, ◌≤◌, pos, true, false, List, [], ◌∷◌, map, All, AllPairs, Contains, get_or, refl, ap, arith}
use Rattle.std.proofs.lemmas.List.Elements.{All-cons, All-nil}
use Rattle.std.proofs.lemmas.List.Kept.{AllPairs-cons}
use Rattle.mr_text.specs.declared.request.Request.{Request}
use Rattle.mr_text.specs.declared.request.Request.TheVariants as request
use Rattle.mr_text.specs.declared.reply.Reply.TheVariants as reply
use Rattle.mr_clock.specs.Clocks.{NeverGoesBack, StayWithin}
use Rattle.mr_clock.specs.Readings.{AreWithin, readings_at_first, readings_after}
use Rattle.mr_history.specs.declared.entry.Author.TheVariants.{By}
use Rattle.mr_join.specs.declared.leg_reply.LegReply.TheVariants.{Hit, Stored, Deleted, NotFound}
use Rattle.mr_node.specs.declared.command.NodeCommand.TheVariants as command
use Rattle.mr_phases.specs.declared.side.Side.TheVariants.{Old, New}
use Rattle.mr_phases.specs.Schedule.{Hop, IsSchedule}
use Rattle.mr_pools.specs.declared.hash.NamedHash.TheVariants.{Sum}
use Rattle.mr_pools.specs.Pool.{IsPool, AreApart}
use Rattle.mr_pools.specs.Routing.{RoutingView, pool_of}
use Rattle.mr_proxy.specs.ProxyView.{ProxyView, fresh_proxy}
use Rattle.mr_proxy.specs.Issue.{next_op, after_issue}
use Rattle.mr_proxy.specs.Sheets.{sheet_at}
use Rattle.mr_proxy.specs.Transitions.{after_take}
use Rattle.mr_world.specs.declared.event.Event.{Event}
use Rattle.mr_world.specs.declared.event.Event.TheVariants.{Clock, Client, Deliver, Return}
use Rattle.mr_world.specs.declared.message.Message.{Message}
use Rattle.mr_world.specs.declared.node.Node.{Node}
use Rattle.mr_world.specs.declared.note.Note.TheVariants.{Nothing, Issued, Performed, Waiting, Answered}
use Rattle.mr_world.specs.declared.setup.ProxySetup.{ProxySetup}
use Rattle.mr_world.specs.declared.setup.HeldItem.{HeldItem}
use Rattle.mr_world.specs.Example.{HappensBetweenHops}
use Rattle.mr_world.specs.Headline.{IsPlan}
use Rattle.mr_world.specs.Setup.{SetupView, proxies_from, nodes_at_first, held_entry, empty_node, with_item, least_interval_of, AllAlike, MovesTo, IsNewPoolEmpty}
use Rattle.mr_world.specs.Steps.{WorldStep, WorldRun, message_of}
use Rattle.mr_world.specs.WorldView.{WorldView}
use Rattle.mr_world.proofs.ExampleLemmas.{key, block, issued, delivered, returned, does_issue, does_deliver, does_return, pool_of_one}

abbrev first_name : List ℕ
first_name = 97 ∷ []

abbrev second_name : List ℕ
second_name = 98 ∷ []

abbrev third_name : List ℕ
third_name = 99 ∷ []

abbrev routing : RoutingView
routing = record { pools = (first_name ∷ []) ∷ (second_name ∷ []) ∷ (third_name ∷ []) ∷ []; hash = Sum }

abbrev first_hop : Hop
first_hop = record { start = 10; interval = 5 }

abbrev second_hop : Hop
second_hop = record { start = 20; interval = 5 }

abbrev hops : List Hop
hops = first_hop ∷ second_hop ∷ []

abbrev proxy_at : ℕ → ProxySetup
proxy_at reading = record { routing = routing; schedule = hops; room = 1; reading = reading }

abbrev setup : SetupView
setup = record { proxies = proxy_at 18 ∷ proxy_at 20 ∷ proxy_at 22 ∷ []; capacity = 1; held = [] }

abbrev w0 : WorldView
w0 = record {
  readings = readings_at_first (map (λ proxy. proxy.reading) setup.proxies);
  proxies = proxies_from 0 setup.proxies;
  nodes = nodes_at_first setup;
  sent = [];
  replies = [];
  history = map held_entry setup.held;
  terms = record { same = true; new_empty = true; least = least_interval_of setup.proxies };
}

-- the proxy in the first migration reads its new pool already, and sets the key there
abbrev early_set : Request
early_set = request.Set key 0 (pos 0) block false

abbrev a0 : ProxyView
a0 = fresh_proxy 0 0 routing hops 1

abbrev w1 : WorldView
w1 = issued w0 0 a0 18 early_set

s0 : WorldStep w0 (Client 0 early_set) (Issued (next_op a0) 0 1) w1
s0 = does_issue w0 0 a0 18 early_set (record { gets = refl }) (record { gets = refl }) tt refl

abbrev set_second : Message
set_second = message_of w0.nodes routing (sheet_at routing 0 (next_op a0) 0 (record { side = New; command = command.Set key 0 (pos 0) block }))

abbrev second_empty : Node
second_empty = empty_node 1 second_name

abbrev w2 : WorldView
w2 = delivered w1 0 set_second second_empty

s1 : WorldStep w1 (Deliver 0 1) (Performed 0) w2
s1 = does_deliver w1 0 set_second second_empty (record { gets = refl }) (record { gets = refl })

abbrev a1 : ProxyView
a1 = after_issue a0 18 early_set

abbrev w3 : WorldView
w3 = returned w2 set_second a1 Stored

s2 : WorldStep w2 (Return 0) (Answered (next_op a0)) w3
s2 = does_return w2 0 0 set_second a1 Stored (record { gets = refl }) (record { gets = refl }) (record { gets = refl })

-- another proxy, in the second migration, deletes the key in both pools of that
abbrev later_delete : Request
later_delete = request.Delete key false

abbrev b0 : ProxyView
b0 = fresh_proxy 1 0 routing hops 1

abbrev w4 : WorldView
w4 = issued w3 1 b0 20 later_delete

s3 : WorldStep w3 (Client 1 later_delete) (Issued (next_op b0) 1 2) w4
s3 = does_issue w3 1 b0 20 later_delete (record { gets = refl }) (record { gets = refl }) tt refl

abbrev from_old : Message
from_old = message_of w3.nodes routing (sheet_at routing 1 (next_op b0) 0 (record { side = Old; command = command.Delete key }))

abbrev from_new : Message
from_new = message_of w3.nodes routing (sheet_at routing 1 (next_op b0) 1 (record { side = New; command = command.Delete key }))

abbrev second_full : Node
second_full = with_item (record { node = second_name; key = key; flags = 0; block = block }) second_empty

abbrev third_empty : Node
third_empty = empty_node 1 third_name

abbrev w5 : WorldView
w5 = delivered w4 1 from_old second_full

s4 : WorldStep w4 (Deliver 1 1) (Performed 1) w5
s4 = does_deliver w4 1 from_old second_full (record { gets = refl }) (record { gets = refl })

abbrev w6 : WorldView
w6 = delivered w5 2 from_new third_empty

s5 : WorldStep w5 (Deliver 2 1) (Performed 2) w6
s5 = does_deliver w5 2 from_new third_empty (record { gets = refl }) (record { gets = refl })

abbrev b1 : ProxyView
b1 = after_issue b0 20 later_delete

abbrev w7 : WorldView
w7 = returned w6 from_old b1 Deleted

s6 : WorldStep w6 (Return 1) Waiting w7
s6 = does_return w6 1 1 from_old b1 Deleted (record { gets = refl }) (record { gets = refl }) (record { gets = refl })

abbrev b2 : ProxyView
b2 = after_take b1 from_old.sheet.id Deleted

abbrev w8 : WorldView
w8 = returned w7 from_new b2 NotFound

s7 : WorldStep w7 (Return 2) (Answered (next_op b0)) w8
s7 = does_return w7 2 2 from_new b2 NotFound (record { gets = refl }) (record { gets = refl }) (record { gets = refl })

-- clocks go on: the third proxy reads the last pool, sets the key there and gets it
abbrev w9 : WorldView
w9 = record w8 { readings = readings_after w8.readings (record { proxy = 0; reading = 21 }) }

s8 : WorldStep w8 (Clock 0 21) Nothing w9
s8 = record { home = omega arith; tells = refl; becomes = refl }

abbrev w10 : WorldView
w10 = record w9 { readings = readings_after w9.readings (record { proxy = 2; reading = 25 }) }

s9 : WorldStep w9 (Clock 2 25) Nothing w10
s9 = record { home = omega arith; tells = refl; becomes = refl }

abbrev c0 : ProxyView
c0 = fresh_proxy 2 0 routing hops 1

abbrev w11 : WorldView
w11 = issued w10 2 c0 25 early_set

s10 : WorldStep w10 (Client 2 early_set) (Issued (next_op c0) 3 1) w11
s10 = does_issue w10 2 c0 25 early_set (record { gets = refl }) (record { gets = refl }) tt refl

abbrev set_third : Message
set_third = message_of w10.nodes routing (sheet_at routing 1 (next_op c0) 0 (record { side = New; command = command.Set key 0 (pos 0) block }))

abbrev w12 : WorldView
w12 = delivered w11 3 set_third third_empty

s11 : WorldStep w11 (Deliver 3 1) (Performed 3) w12
s11 = does_deliver w11 3 set_third third_empty (record { gets = refl }) (record { gets = refl })

abbrev c1 : ProxyView
c1 = after_issue c0 25 early_set

abbrev w13 : WorldView
w13 = returned w12 set_third c1 Stored

s12 : WorldStep w12 (Return 3) (Answered (next_op c0)) w13
s12 = does_return w12 3 3 set_third c1 Stored (record { gets = refl }) (record { gets = refl }) (record { gets = refl })

abbrev later_get : Request
later_get = request.Get (key ∷ [])

abbrev c2 : ProxyView
c2 = after_take c1 set_third.sheet.id Stored

abbrev w14 : WorldView
w14 = issued w13 2 c2 25 later_get

s13 : WorldStep w13 (Client 2 later_get) (Issued (next_op c2) 4 1) w14
s13 = does_issue w13 2 c2 25 later_get (record { gets = refl }) (record { gets = refl }) (omega arith) refl

abbrev get_third : Message
get_third = message_of w13.nodes routing (sheet_at routing 1 (next_op c2) 0 (record { side = New; command = command.Get key }))

abbrev third_full : Node
third_full = with_item (record { node = third_name; key = key; flags = 0; block = block }) third_empty

abbrev w15 : WorldView
w15 = delivered w14 4 get_third third_full

s14 : WorldStep w14 (Deliver 4 1) (Performed 4) w15
s14 = does_deliver w14 4 get_third third_full (record { gets = refl }) (record { gets = refl })

abbrev c3 : ProxyView
c3 = after_issue c2 25 later_get

abbrev w16 : WorldView
w16 = returned w15 get_third c3 (Hit 0 block)

s15 : WorldStep w15 (Return 4) (Answered (next_op c2)) w16
s15 = does_return w15 4 4 get_third c3 (Hit 0 block) (record { gets = refl }) (record { gets = refl }) (record { gets = refl })

abbrev later_events : List Event
later_events = Client 2 early_set ∷ Deliver 3 1 ∷ Return 3 ∷ Client 2 later_get ∷ Deliver 4 1 ∷ Return 4 ∷ []

abbrev events : List Event
events =
    Client 0 early_set ∷ Deliver 0 1 ∷ Return 0 ∷ Client 1 later_delete ∷ Deliver 1 1 ∷ Deliver 2 1 ∷ Return 1 ∷ Return 2 ∷ Clock 0 21 ∷ Clock 2 25
    ∷ later_events

later_runs : WorldRun w10 later_events w16
later_runs = (w11, _, s10, (w12, _, s11, (w13, _, s12, (w14, _, s13, (w15, _, s14, (w16, _, s15, refl))))))

runs : WorldRun w0 events w16
runs = (w1, _, s0, (w2, _, s1, (w3, _, s2, (w4, _, s3, (w5, _, s4, (w6, _, s5, (w7, _, s6, (w8, _, s7, (w9, _, s8, (w10, _, s9, later_runs))))))))))

-- the proxies have what they have
each : (P : ProxySetup → Type 0) → ((reading : ℕ) → P (proxy_at reading)) → All P setup.proxies
each P holds =
    All-cons P (proxy_at 18) (proxy_at 20 ∷ proxy_at 22 ∷ []) (holds 18)
    (All-cons P (proxy_at 20) (proxy_at 22 ∷ []) (holds 20) (All-cons P (proxy_at 22) [] (holds 22) (All-nil P)))

abbrev IsLike : ProxySetup → ProxySetup → Type 0
IsLike one other = (one.routing ≡ other.routing) × (one.schedule ≡ other.schedule)

alike : AllAlike setup.proxies
alike =
    let last : AllPairs IsLike (proxy_at 22 ∷ []) = λ i j d before within. absurd (omega arith) in
    let like : (r t : ℕ) → IsLike (proxy_at r) (proxy_at t) = λ r t. (refl, refl) in
    let more : AllPairs IsLike (proxy_at 20 ∷ proxy_at 22 ∷ []) =
    AllPairs-cons IsLike (proxy_at 20) (proxy_at 22 ∷ []) (All-cons (IsLike (proxy_at 20)) (proxy_at 22) [] (like 20 22) (All-nil (IsLike (proxy_at 20)))) last in
    AllPairs-cons IsLike (proxy_at 18) (proxy_at 20 ∷ proxy_at 22 ∷ [])
    (All-cons (IsLike (proxy_at 18)) (proxy_at 20) (proxy_at 22 ∷ []) (like 18 20)
    (All-cons (IsLike (proxy_at 18)) (proxy_at 22) [] (like 18 22) (All-nil (IsLike (proxy_at 18))))) more

later_pools_are_empty : IsNewPoolEmpty setup
later_pools_are_empty = All-nil (λ (item : HeldItem). All (λ proxy. ¬ MovesTo proxy.routing item.node) setup.proxies)

three_within : (most a b c : ℕ) → a ≤ b + most → b ≤ a + most → a ≤ c + most → c ≤ a + most → b ≤ c + most → c ≤ b + most
    → AreWithin most (a ∷ b ∷ c ∷ [])
three_within most a b c ab ba ac ca bc cb zero zero x y e f = let p : a ≡ x = cc in let q : a ≡ y = cc in omega arith
three_within most a b c ab ba ac ca bc cb zero (suc zero) x y e f = let p : a ≡ x = cc in let q : b ≡ y = cc in omega arith
three_within most a b c ab ba ac ca bc cb zero (suc (suc zero)) x y e f = let p : a ≡ x = cc in let q : c ≡ y = cc in omega arith
three_within most a b c ab ba ac ca bc cb (suc zero) zero x y e f = let p : b ≡ x = cc in let q : a ≡ y = cc in omega arith
three_within most a b c ab ba ac ca bc cb (suc zero) (suc zero) x y e f = let p : b ≡ x = cc in let q : b ≡ y = cc in omega arith
three_within most a b c ab ba ac ca bc cb (suc zero) (suc (suc zero)) x y e f = let p : b ≡ x = cc in let q : c ≡ y = cc in omega arith
three_within most a b c ab ba ac ca bc cb (suc (suc zero)) zero x y e f = let p : c ≡ x = cc in let q : a ≡ y = cc in omega arith
three_within most a b c ab ba ac ca bc cb (suc (suc zero)) (suc zero) x y e f = let p : c ≡ x = cc in let q : b ≡ y = cc in omega arith
three_within most a b c ab ba ac ca bc cb (suc (suc zero)) (suc (suc zero)) x y e f = let p : c ≡ x = cc in let q : c ≡ y = cc in omega arith
three_within most a b c ab ba ac ca bc cb (suc (suc (suc k))) q x y e f = cc
three_within most a b c ab ba ac ca bc cb zero (suc (suc (suc k))) x y e f = cc
three_within most a b c ab ba ac ca bc cb (suc zero) (suc (suc (suc k))) x y e f = cc
three_within most a b c ab ba ac ca bc cb (suc (suc zero)) (suc (suc (suc k))) x y e f = cc

within_five : (a b c : ℕ) → a ≤ b + 5 → b ≤ a + 5 → a ≤ c + 5 → c ≤ a + 5 → b ≤ c + 5 → c ≤ b + 5 → AreWithin 5 (a ∷ b ∷ c ∷ [])
within_five a b c = three_within 5 a b c

forward : NeverGoesBack (18 ∷ 20 ∷ 22 ∷ []) (record { proxy = 0; reading = 21 } ∷ record { proxy = 2; reading = 25 } ∷ [])
forward = (λ before e. let is : 18 ≡ before = cc in omega arith, (λ before e. let is : 22 ≡ before = cc in omega arith, tt))

near : StayWithin 5 (18 ∷ 20 ∷ 22 ∷ []) (record { proxy = 0; reading = 21 } ∷ record { proxy = 2; reading = 25 } ∷ [])
near = (
  within_five 18 20 22 (omega arith) (omega arith) (omega arith) (omega arith) (omega arith) (omega arith),
  (
    within_five 21 20 22 (omega arith) (omega arith) (omega arith) (omega arith) (omega arith) (omega arith),
    within_five 21 20 25 (omega arith) (omega arith) (omega arith) (omega arith) (omega arith) (omega arith),
  ),
)

sized : (number : ℕ) → number < 3 → IsPool (pool_of routing number)
sized zero below = pool_of_one first_name
sized (suc zero) below = pool_of_one second_name
sized (suc (suc zero)) below = pool_of_one third_name
sized (suc (suc (suc number))) below = absurd (omega arith)

-- pools of one name each, which differ
differ : (x y : ℕ) → (x ≡ y → ⊥) → Contains ((y ∷ []) ∷ []) (x ∷ []) → ⊥
differ x y apart (zero, within, is) = let same : y ≡ x = ap (λ (name : List ℕ). get_or name 0 0) is in apart (omega arith)
differ x y apart (suc k, within, is) = absurd (omega arith)

one_apart : (x y : ℕ) → (x ≡ y → ⊥) → AreApart ((x ∷ []) ∷ []) ((y ∷ []) ∷ [])
one_apart x y apart =
    All-cons (λ name. ¬ Contains ((y ∷ []) ∷ []) name) (x ∷ []) [] (differ x y apart) (All-nil (λ name. ¬ Contains ((y ∷ []) ∷ []) name))

apart : (earlier later : ℕ) → earlier < later → later < 3 → AreApart (pool_of routing earlier) (pool_of routing later)
apart zero (suc zero) before below = one_apart 97 98 (λ same. omega arith)
apart zero (suc (suc zero)) before below = one_apart 97 99 (λ same. omega arith)
apart (suc zero) (suc (suc zero)) before below = one_apart 98 99 (λ same. omega arith)
apart zero zero before below = absurd (omega arith)
apart (suc earlier) zero before below = absurd (omega arith)
apart (suc earlier) (suc zero) before below = absurd (omega arith)
apart (suc (suc earlier)) (suc (suc zero)) before below = absurd (omega arith)
apart earlier (suc (suc (suc later))) before below = absurd (omega arith)

each_hop : (P : Hop → Type 0) → P first_hop → P second_hop → All P hops
each_hop P holds holds' = All-cons P first_hop (second_hop ∷ []) holds (All-cons P second_hop [] holds' (All-nil P))

scheduled : IsSchedule hops
scheduled = record {
  begins = omega arith;
  few = omega arith;
  chain = (omega arith, tt);
  lasts = each_hop (λ h. 0 < h.interval) (omega arith) (omega arith);
  fits = each_hop (λ h. h.start + 2 * h.interval < 2 ^ 64) (omega arith) (omega arith);
}

abbrev HasPlan : ProxySetup → Type 0
HasPlan proxy = IsPlan proxy.routing proxy.schedule

plan : (reading : ℕ) → HasPlan (proxy_at reading)
plan reading = record { sound = record { migrates = omega arith; few = omega arith; sized = sized; apart = apart }; schedule = scheduled; chain = refl }

pub chain_example_happens : HappensBetweenHops
chain_example_happens = record {
  setup = setup;
  events = events;
  first = w0;
  last = w16;
  clocks = record { one = proxy_at 18; two = proxy_at 20; three = proxy_at 22; all = refl; behind = refl; ahead = refl; ahead_too = refl };
  plans = each HasPlan plan;
  begins = record {
    readings = refl;
    proxies = refl;
    nodes = refl;
    sent = refl;
    replies = refl;
    history = refl;
    same = (λ _. alike, λ _. refl);
    new_empty = (λ _. later_pools_are_empty, λ _. refl);
    least = refl;
  };
  run = runs;
  premises = record { same = alike; new_empty = later_pools_are_empty; forward = forward; near = near };
  shows = record {
    delete = next_op b0;
    get = next_op c2;
    item = record { key = key; flags = 0; block = block };
    start = 3;
    done = 6;
    stored = 8;
    issue = 10;
    answer = 11;
    acknowledged = record {
      noreply = false;
      reply = reply.NotFound;
      issued = record { proxy = 1; there = record { gets = refl } };
      answered = record { gets = refl };
      acknowledges = tt;
    };
    from_old = record { place = 4; there = record { gets = refl } };
    from_new = record { place = 5; there = record { gets = refl } };
    set_later = omega arith;
    set = record { by = By (next_op c0); there = record { gets = refl } };
    asked_later = omega arith;
    hit = record {
      keys = key ∷ [];
      items = record { key = key; flags = 0; block = block } ∷ [];
      issued = record { proxy = 2; there = record { gets = refl } };
      answered = record { gets = refl };
      has = record { gets = refl };
    };
  };
}
