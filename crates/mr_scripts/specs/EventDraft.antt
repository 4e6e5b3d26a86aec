-- An event that was looked at whole, and is yet to be made.
use Rattle.std.specs.Prelude.{◌≡◌, Ok, ⊤}
use Rattle.mr_world.specs.declared.event.Event.{Event}
use Rattle.mr_world.specs.declared.event.Event.TheVariants as event
use Rattle.mr_scripts.specs.RequestDraft.{request_drafted, IsRequestReady}
use Rattle.mr_scripts.specs.Texts.{node_name_of_text}
use Rattle.mr_scripts.specs.declared.events.EventDraft.{EventDraft}
use Rattle.mr_scripts.specs.declared.events.EventDraft.TheVariants.{Clock, Client, Deliver, Return, GiveUp, NodeRestart, ProxyRestart}

-- the event that it becomes
abbrev pub event_drafted : EventDraft → Event
event_drafted (Clock proxy reading) = event.Clock proxy reading
event_drafted (Client proxy request) = event.Client proxy (request_drafted request)
event_drafted (Deliver message now) = event.Deliver message now
event_drafted (Return reply) = event.Return reply
event_drafted (GiveUp op) = event.GiveUp op
event_drafted (NodeRestart node) = event.NodeRestart node.now
event_drafted (ProxyRestart proxy) = event.ProxyRestart proxy

-- nothing but want of memory keeps it from being made
abbrev pub IsEventReady : EventDraft → Type 0
IsEventReady (Clock proxy reading) = ⊤
IsEventReady (Client proxy request) = IsRequestReady request
IsEventReady (Deliver message now) = ⊤
IsEventReady (Return reply) = ⊤
IsEventReady (GiveUp op) = ⊤
IsEventReady (NodeRestart node) = node_name_of_text node.now ≡ Ok node.now
IsEventReady (ProxyRestart proxy) = ⊤
