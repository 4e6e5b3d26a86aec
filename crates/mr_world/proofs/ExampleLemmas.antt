-- The example's run, event by event: each fleet is what the definitions make of the one before.
use Rattle.std.proofs.Common.{◌≡◌, ℕ, zero, suc, ◌+◌, ◌*◌, ◌^◌, ◌<◌, ◌≤◌, pos, true, false, List, [], ◌∷◌, ◌++◌, length, map, slice_set, None, All, AllPairs, Contains, get_or, refl, ap, arith}
use Rattle.std.proofs.lemmas.List.Elements.{All-cons, All-nil}
use Rattle.std.proofs.lemmas.List.Kept.{AllPairs-cons}
use Rattle.mr_text.specs.declared.request.Request.{Request}
use Rattle.mr_text.specs.declared.request.Request.TheVariants as request
use Rattle.mr_text.specs.declared.reply.Reply.TheVariants as reply
use Rattle.mr_clock.specs.Clocks.{NeverGoesBack, StayWithin}
use Rattle.mr_clock.specs.Readings.{AreWithin, readings_at_first, readings_after}
use Rattle.mr_history.specs.declared.entry.Entry.TheVariants as entry
use Rattle.mr_history.specs.declared.entry.Author.TheVariants.{By}
use Rattle.mr_history.specs.Places.{At}
use Rattle.mr_join.specs.declared.leg_reply.LegReply.{LegReply}
use Rattle.mr_join.specs.declared.leg_reply.LegReply.TheVariants.{Hit, Stored, Deleted, NotFound}
use Rattle.mr_node.specs.declared.command.NodeCommand.TheVariants as command
use Rattle.mr_node.specs.Recency.{items_after, reply_to}
use Rattle.mr_phases.specs.declared.side.Side.TheVariants.{Old, New}
use Rattle.mr_phases.specs.Schedule.{Hop, IsSchedule}
use Rattle.mr_pools.specs.declared.hash.NamedHash.TheVariants.{Sum}
use Rattle.mr_pools.specs.Pool.{IsPool, AreApart}
use Rattle.mr_pools.specs.Routing.{RoutingView, routing_between, pool_of}
use Rattle.mr_proxy.specs.ProxyView.{ProxyView, fresh_proxy}
use Rattle.mr_proxy.specs.Issue.{next_op, sheets_of, refusal_of, after_issue}
use Rattle.mr_proxy.specs.Sheets.{sheet_at}
use Rattle.mr_proxy.specs.Sound.{HasLegs}
use Rattle.mr_proxy.specs.Transitions.{taken_of, after_take}
use Rattle.mr_world.specs.declared.event.Event.{Event}
use Rattle.mr_world.specs.declared.event.Event.TheVariants.{Clock, Client, Deliver, Return}
use Rattle.mr_world.specs.declared.message.Message.{Message}
use Rattle.mr_world.specs.declared.node.Node.{Node}
use Rattle.mr_world.specs.declared.note.Note.TheVariants.{Nothing, Issued, Performed, Waiting, Answered}
use Rattle.mr_world.specs.declared.setup.ProxySetup.{ProxySetup}
use Rattle.mr_world.specs.declared.setup.HeldItem.{HeldItem}
use Rattle.mr_world.specs.Example.{Happens}
use Rattle.mr_world.specs.Headline.{IsPlan}
use Rattle.mr_world.specs.Setup.{SetupView, proxies_from, nodes_at_first, held_entry, empty_node, with_item, least_interval_of, AllAlike, MovesTo, IsNewPoolEmpty}
use Rattle.mr_world.specs.Steps.{WorldStep, WorldRun, Issues, Delivers, Returns, message_of, performed, answered_by, note_of}
use Rattle.mr_world.specs.WorldView.{WorldView}

abbrev pub key : List ℕ
key = 107 ∷ []

abbrev pub block : List ℕ
block = 118 ∷ []

abbrev old_name : List ℕ
old_name = 111 ∷ []

abbrev new_name : List ℕ
new_name = 110 ∷ []

abbrev routing : RoutingView
routing = routing_between (old_name ∷ []) (new_name ∷ []) Sum

abbrev example_hop : Hop
example_hop = record { start = 10; interval = 5 }

abbrev hops : List Hop
hops = example_hop ∷ []

abbrev proxy_at : ℕ → ProxySetup
proxy_at reading = record { routing = routing; schedule = hops; room = 1; reading = reading }

abbrev held_item : HeldItem
held_item = record { node = old_name; key = key; flags = 0; block = block }

abbrev setup : SetupView
setup = record { proxies = proxy_at 12 ∷ proxy_at 14 ∷ []; capacity = 1; held = held_item ∷ [] }

abbrev w0 : WorldView
w0 = record {
  readings = readings_at_first (map (λ proxy. proxy.reading) setup.proxies);
  proxies = proxies_from 0 setup.proxies;
  nodes = nodes_at_first setup;
  sent = [];
  replies = [];
  history = map held_entry setup.held;
  terms = record { same = true; new_empty = true; least = least_interval_of setup.proxies };
}

-- what each kind of event makes of a fleet
abbrev pub issued : WorldView → ℕ → ProxyView → ℕ → Request → WorldView
issued w number proxy reading asked =
    record w {
      proxies = slice_set w.proxies number (after_issue proxy reading asked);
      sent = w.sent ++ map (message_of w.nodes proxy.routing) (sheets_of proxy reading asked);
      history = w.history ++ entry.Issued (next_op proxy) number asked ∷ [];
    }

pub does_issue : (w : WorldView) (number : ℕ) (proxy : ProxyView) (reading : ℕ) (asked : Request) → At w.proxies number proxy
    → At w.readings.standing number reading → HasLegs asked → refusal_of proxy ≡ None
    → Issues w number asked (Issued (next_op proxy) (length w.sent) (length (sheets_of proxy reading asked))) (issued w number proxy reading asked)
does_issue w number proxy reading asked home clock legs accepted = record {
  proxy = proxy;
  reading = reading;
  home = home;
  clock = clock;
  has_legs = legs;
  accepted = accepted;
  tells = refl;
  becomes = refl;
}

abbrev pub delivered : WorldView → ℕ → Message → Node → WorldView
delivered w number message node =
    record w {
      nodes = slice_set w.nodes message.node (record { name = node.name; cache = record node.cache { items = items_after node.cache.capacity 1 message.sheet.command node.cache.items } });
      replies = w.replies ++ record { message = number; reply = reply_to 1 message.sheet.command node.cache.items } ∷ [];
      history = w.history ++ performed message.sheet message.sheet.command;
    }

pub does_deliver : (w : WorldView) (number : ℕ) (message : Message) (node : Node) → At w.sent number message → At w.nodes message.node node
    → Delivers w number 1 (Performed (length w.replies)) (delivered w number message node)
does_deliver w number message node sent there = record {
  message = message;
  node = node;
  reply = reply_to 1 message.sheet.command node.cache.items;
  left = record node.cache { items = items_after node.cache.capacity 1 message.sheet.command node.cache.items };
  sent = sent;
  there = there;
  step = record { answers = refl; leaves = refl };
  tells = refl;
  becomes = refl;
}

abbrev pub returned : WorldView → Message → ProxyView → LegReply → WorldView
returned w message proxy reply =
    record w {
      proxies = slice_set w.proxies message.sheet.id.op.proxy (after_take proxy message.sheet.id reply);
      history = w.history ++ answered_by (taken_of proxy message.sheet.id reply);
    }

pub does_return : (w : WorldView) (number from : ℕ) (message : Message) (proxy : ProxyView) (reply : LegReply)
    → At w.replies number (record { message = from; reply = reply }) → At w.sent from message → At w.proxies message.sheet.id.op.proxy proxy
    → Returns w number (note_of (taken_of proxy message.sheet.id reply)) (returned w message proxy reply)
does_return w number from message proxy reply came sent home = record {
  message = message;
  proxy = proxy;
  sender = message.sheet.id.op.proxy;
  from = from;
  reply = reply;
  came = came;
  sent = sent;
  sends = refl;
  home = home;
  tells = refl;
  becomes = refl;
}

-- the first proxy deletes the key while its clock is in the both phase that reads old
abbrev first_delete : Request
first_delete = request.Delete key false

abbrev a0 : ProxyView
a0 = fresh_proxy 0 0 routing hops 1

abbrev w1 : WorldView
w1 = issued w0 0 a0 12 first_delete

abbrev from_old : Message
from_old = message_of w0.nodes routing (sheet_at routing 0 (next_op a0) 0 (record { side = Old; command = command.Delete key }))

abbrev from_new : Message
from_new = message_of w0.nodes routing (sheet_at routing 0 (next_op a0) 1 (record { side = New; command = command.Delete key }))

s0 : WorldStep w0 (Client 0 first_delete) (Issued (next_op a0) 0 2) w1
s0 = does_issue w0 0 a0 12 first_delete (record { gets = refl }) (record { gets = refl }) tt refl

abbrev old_full : Node
old_full = with_item held_item (empty_node 1 old_name)

abbrev new_empty : Node
new_empty = empty_node 1 new_name

abbrev w2 : WorldView
w2 = delivered w1 0 from_old old_full

s1 : WorldStep w1 (Deliver 0 1) (Performed 0) w2
s1 = does_deliver w1 0 from_old old_full (record { gets = refl }) (record { gets = refl })

abbrev w3 : WorldView
w3 = delivered w2 1 from_new new_empty

s2 : WorldStep w2 (Deliver 1 1) (Performed 1) w3
s2 = does_deliver w2 1 from_new new_empty (record { gets = refl }) (record { gets = refl })

abbrev a1 : ProxyView
a1 = after_issue a0 12 first_delete

abbrev w4 : WorldView
w4 = returned w3 from_old a1 Deleted

s3 : WorldStep w3 (Return 0) Waiting w4
s3 = does_return w3 0 0 from_old a1 Deleted (record { gets = refl }) (record { gets = refl }) (record { gets = refl })

abbrev a2 : ProxyView
a2 = after_take a1 from_old.sheet.id Deleted

abbrev w5 : WorldView
w5 = returned w4 from_new a2 NotFound

s4 : WorldStep w4 (Return 1) (Answered (next_op a0)) w5
s4 = does_return w4 1 1 from_new a2 NotFound (record { gets = refl }) (record { gets = refl }) (record { gets = refl })

-- the other proxy's clock goes on to the both phase that reads new, and that proxy sets the key and gets it
abbrev w6 : WorldView
w6 = record w5 { readings = readings_after w5.readings (record { proxy = 1; reading = 16 }) }

s5 : WorldStep w5 (Clock 1 16) Nothing w6
s5 = record { home = omega arith; tells = refl; becomes = refl }

abbrev later_set : Request
later_set = request.Set key 0 (pos 0) block false

abbrev b0 : ProxyView
b0 = fresh_proxy 1 0 routing hops 1

abbrev w7 : WorldView
w7 = issued w6 1 b0 16 later_set

s6 : WorldStep w6 (Client 1 later_set) (Issued (next_op b0) 2 1) w7
s6 = does_issue w6 1 b0 16 later_set (record { gets = refl }) (record { gets = refl }) tt refl

abbrev set_new : Message
set_new = message_of w6.nodes routing (sheet_at routing 0 (next_op b0) 0 (record { side = New; command = command.Set key 0 (pos 0) block }))

abbrev w8 : WorldView
w8 = delivered w7 2 set_new new_empty

s7 : WorldStep w7 (Deliver 2 1) (Performed 2) w8
s7 = does_deliver w7 2 set_new new_empty (record { gets = refl }) (record { gets = refl })

abbrev b1 : ProxyView
b1 = after_issue b0 16 later_set

abbrev w9 : WorldView
w9 = returned w8 set_new b1 Stored

s8 : WorldStep w8 (Return 2) (Answered (next_op b0)) w9
s8 = does_return w8 2 2 set_new b1 Stored (record { gets = refl }) (record { gets = refl }) (record { gets = refl })

abbrev later_get : Request
later_get = request.Get (key ∷ [])

abbrev b2 : ProxyView
b2 = after_take b1 set_new.sheet.id Stored

abbrev w10 : WorldView
w10 = issued w9 1 b2 16 later_get

s9 : WorldStep w9 (Client 1 later_get) (Issued (next_op b2) 3 1) w10
s9 = does_issue w9 1 b2 16 later_get (record { gets = refl }) (record { gets = refl }) (omega arith) refl

abbrev get_new : Message
get_new = message_of w9.nodes routing (sheet_at routing 0 (next_op b2) 0 (record { side = New; command = command.Get key }))

abbrev new_full : Node
new_full = with_item (record { node = new_name; key = key; flags = 0; block = block }) new_empty

abbrev w11 : WorldView
w11 = delivered w10 3 get_new new_full

s10 : WorldStep w10 (Deliver 3 1) (Performed 3) w11
s10 = does_deliver w10 3 get_new new_full (record { gets = refl }) (record { gets = refl })

abbrev b3 : ProxyView
b3 = after_issue b2 16 later_get

abbrev w12 : WorldView
w12 = returned w11 get_new b3 (Hit 0 block)

s11 : WorldStep w11 (Return 3) (Answered (next_op b2)) w12
s11 = does_return w11 3 3 get_new b3 (Hit 0 block) (record { gets = refl }) (record { gets = refl }) (record { gets = refl })

abbrev events : List Event
events =
    Client 0 first_delete ∷ Deliver 0 1 ∷ Deliver 1 1 ∷ Return 0 ∷ Return 1 ∷ Clock 1 16 ∷ Client 1 later_set ∷ Deliver 2 1 ∷ Return 2
    ∷ Client 1 later_get ∷ Deliver 3 1 ∷ Return 3 ∷ []

runs : WorldRun w0 events w12
runs = (w1, _, s0, (w2, _, s1, (w3, _, s2, (w4, _, s3, (w5, _, s4, (w6, _, s5, (w7, _, s6, (w8, _, s7, (w9, _, s8, (w10, _, s9, (w11, _, s10, (w12, _, s11, refl))))))))))))

-- both proxies have what they have
both : (P : ProxySetup → Type 0) → ((reading : ℕ) → P (proxy_at reading)) → All P setup.proxies
both P holds = All-cons P (proxy_at 12) (proxy_at 14 ∷ []) (holds 12) (All-cons P (proxy_at 14) [] (holds 14) (All-nil P))

abbrev IsLike : ProxySetup → ProxySetup → Type 0
IsLike one other = (one.routing ≡ other.routing) × (one.schedule ≡ other.schedule)

alike : AllAlike setup.proxies
alike =
    let alone : AllPairs IsLike (proxy_at 14 ∷ []) = λ i j d before within. absurd (omega arith) in
    let like : IsLike (proxy_at 12) (proxy_at 14) = (refl, refl) in
    AllPairs-cons IsLike (proxy_at 12) (proxy_at 14 ∷ []) (All-cons (IsLike (proxy_at 12)) (proxy_at 14) [] like (All-nil (IsLike (proxy_at 12)))) alone

-- the names differ
pub other_byte : (x y : ℕ) → x ≡ 110 → y ≡ 111 → x ≡ y → ⊥
other_byte x y is_new is_old same = omega arith

other_name : new_name ≡ old_name → ⊥
other_name same = other_byte 110 111 refl refl (ap (λ (name : List ℕ). get_or name 0 0) same)

not_among : Contains (new_name ∷ []) old_name → ⊥
not_among (zero, within, is) = other_name is
not_among (suc k, within, is) = omega arith

not_in : (pool : ℕ) → 0 < pool → pool < 2 → Contains (pool_of routing pool) old_name → ⊥
not_in zero later there names = omega arith
not_in (suc zero) later there names = not_among names
not_in (suc (suc pool)) later there names = omega arith

abbrev IsNoGoal : ProxySetup → Type 0
IsNoGoal proxy = ¬ MovesTo proxy.routing old_name

no_goal : (reading : ℕ) → IsNoGoal (proxy_at reading)
no_goal reading moves = not_in moves.pool moves.later moves.has.there moves.has.names

new_is_empty : IsNewPoolEmpty setup
new_is_empty =
    All-cons (λ (item : HeldItem). All (λ proxy. ¬ MovesTo proxy.routing item.node) setup.proxies) held_item [] (both IsNoGoal no_goal)
    (All-nil (λ (item : HeldItem). All (λ proxy. ¬ MovesTo proxy.routing item.node) setup.proxies))

two_within : (most a b : ℕ) → a ≤ b + most → b ≤ a + most → AreWithin most (a ∷ b ∷ [])
two_within most a b one other zero zero x y e f = let p : a ≡ x = cc in let q : a ≡ y = cc in omega arith
two_within most a b one other zero (suc zero) x y e f = let p : a ≡ x = cc in let q : b ≡ y = cc in omega arith
two_within most a b one other (suc zero) zero x y e f = let p : b ≡ x = cc in let q : a ≡ y = cc in omega arith
two_within most a b one other (suc zero) (suc zero) x y e f = let p : b ≡ x = cc in let q : b ≡ y = cc in omega arith
two_within most a b one other (suc (suc k)) q x y e f = cc
two_within most a b one other zero (suc (suc k)) x y e f = cc
two_within most a b one other (suc zero) (suc (suc k)) x y e f = cc

forward : NeverGoesBack (12 ∷ 14 ∷ []) (record { proxy = 1; reading = 16 } ∷ [])
forward = (λ before e. let is : 14 ≡ before = cc in omega arith, tt)

near : StayWithin 5 (12 ∷ 14 ∷ []) (record { proxy = 1; reading = 16 } ∷ [])
near = (two_within 5 12 14 (omega arith) (omega arith), two_within 5 12 16 (omega arith) (omega arith))

pub pool_of_one : (name : List ℕ) → IsPool (name ∷ [])
pool_of_one name = record { not_empty = omega arith; not_many = omega arith; distinct = λ i j d before within. absurd (omega arith) }

sized : (number : ℕ) → number < 2 → IsPool (pool_of routing number)
sized zero below = pool_of_one old_name
sized (suc zero) below = pool_of_one new_name
sized (suc (suc number)) below = omega arith

apart : (earlier later : ℕ) → earlier < later → later < 2 → AreApart (pool_of routing earlier) (pool_of routing later)
apart zero (suc zero) before below =
    All-cons (λ name. ¬ Contains (new_name ∷ []) name) old_name [] not_among (All-nil (λ name. ¬ Contains (new_name ∷ []) name))
apart zero zero before below = omega arith
apart (suc earlier) zero before below = omega arith
apart (suc earlier) (suc zero) before below = omega arith
apart earlier (suc (suc later)) before below = omega arith

of_hop : (P : Hop → Type 0) → P example_hop → All P hops
of_hop P holds = All-cons P example_hop [] holds (All-nil P)

scheduled : IsSchedule hops
scheduled = record {
  begins = omega arith;
  few = omega arith;
  chain = tt;
  lasts = of_hop (λ h. 0 < h.interval) (omega arith);
  fits = of_hop (λ h. h.start + 2 * h.interval < 2 ^ 64) (omega arith);
}

abbrev HasPlan : ProxySetup → Type 0
HasPlan proxy = IsPlan proxy.routing proxy.schedule

plan : (reading : ℕ) → HasPlan (proxy_at reading)
plan reading = record { sound = record { migrates = omega arith; few = omega arith; sized = sized; apart = apart }; schedule = scheduled; chain = refl }

pub example_happens : Happens
example_happens = record {
  setup = setup;
  events = events;
  first = w0;
  last = w12;
  clocks = record { one = proxy_at 12; other = proxy_at 14; both = refl; differ = λ same. omega arith };
  plans = both HasPlan plan;
  begins = record {
    readings = refl;
    proxies = refl;
    nodes = refl;
    sent = refl;
    replies = refl;
    history = refl;
    same = (λ _. alike, λ _. refl);
    new_empty = (λ _. new_is_empty, λ _. refl);
    least = refl;
  };
  run = runs;
  premises = record { same = alike; new_empty = new_is_empty; forward = forward; near = near };
  shows = record {
    delete = next_op a0;
    get = next_op b2;
    item = record { key = key; flags = 0; block = block };
    start = 1;
    done = 4;
    stored = 6;
    issue = 8;
    answer = 9;
    acknowledged = record {
      noreply = false;
      reply = reply.NotFound;
      issued = record { proxy = 0; there = record { gets = refl } };
      answered = record { gets = refl };
      acknowledges = tt;
    };
    from_old = record { place = 2; there = record { gets = refl } };
    from_new = record { place = 3; there = record { gets = refl } };
    set_later = omega arith;
    set = record { by = By (next_op b0); there = record { gets = refl } };
    asked_later = omega arith;
    hit = record {
      keys = key ∷ [];
      items = record { key = key; flags = 0; block = block } ∷ [];
      issued = record { proxy = 1; there = record { gets = refl } };
      answered = record { gets = refl };
      has = record { gets = refl };
    };
  };
}
