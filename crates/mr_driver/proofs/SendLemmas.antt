-- Machines may cross threads. Their parts are found one by one, since a search that goes down through all of them takes too long.
use denote.RattleType.{RattleType}
use denote.Param.Send.{IsSend, sendable, recorded_send, struct_send, view_send}
use denote.Struct.Declared.{shape}
use Rattle.std.proofs.Crossing.{crosses}
use Rattle.mr_text.specs.contracts.item.Item as item
use Rattle.mr_text.proofs.item.Item.TheSendSync as of_item
use Rattle.mr_text.specs.contracts.reading.begun_item.BegunItem as begun_item
use Rattle.mr_text.proofs.reading.begun_item.BegunItem.TheSendSync as of_begun_item
use Rattle.mr_text.specs.contracts.reading.begun_set.BegunSet as begun_set
use Rattle.mr_text.proofs.reading.begun_set.BegunSet.TheSendSync as of_begun_set
use Rattle.mr_text.specs.contracts.reading.kept.KeptBytes as kept
use Rattle.mr_text.proofs.reading.kept.KeptBytes.TheSendSync as of_kept
use Rattle.mr_text.specs.contracts.reading.spelled.SpelledBytes as spelled
use Rattle.mr_text.specs.contracts.reading.stream.Stream as stream
use Rattle.mr_text.specs.contracts.reading.unfinished_reply.UnfinishedReply as unfinished
use Rattle.mr_text.specs.contracts.reading.request_reader.RequestReader as request_reader
use Rattle.mr_text.specs.contracts.reading.reply_reader.ReplyReader as reply_reader
use Rattle.mr_proxy.specs.contracts.proxy_core.ProxyCore as proxy_core
use Rattle.mr_proxy.proofs.proxy_core.ProxyCore.TheSendSync as of_core
use Rattle.mr_loop.specs.contracts.out_buffer.OutBuffer as out_buffer
use Rattle.mr_loop.specs.contracts.turns.Turns as turns
use Rattle.mr_loop.proofs.turns.Turns.TheSendSync as of_turns
use Rattle.mr_loop.specs.contracts.inbox.Input as input
use Rattle.mr_loop.proofs.inbox.Input.TheSendSync as of_input
use Rattle.mr_loop.specs.contracts.sent_legs.SentLegs as sent_legs
use Rattle.mr_loop.proofs.sent_legs.SentLegs.TheSendSync as of_sent_legs
use Rattle.mr_loop.specs.contracts.link_counts.LinkCounts as link_counts
use Rattle.mr_loop.proofs.link_counts.LinkCounts.TheSendSync as of_link_counts
use Rattle.mr_loop.specs.contracts.counts.LoopCounts as loop_counts
use Rattle.mr_loop.proofs.counts.LoopCounts.TheSendSync as of_loop_counts
use Rattle.mr_counting.specs.contracts.client_counts.ClientCounts as client_counts
use Rattle.mr_counting.proofs.client_counts.ClientCounts.TheSendSync as of_client_counts
use Rattle.mr_loop.specs.contracts.asker.Limits as limits
use Rattle.mr_loop.proofs.asker.Limits.TheSendSync as of_limits
use Rattle.mr_loop.specs.contracts.sending.Scratch as scratch
use Rattle.mr_loop.proofs.sending.Scratch.TheSendSync as of_scratch
use Rattle.mr_loop.specs.contracts.client.Client as client
use Rattle.mr_loop.specs.contracts.inbox.Inbox as inbox
use Rattle.mr_loop.specs.contracts.link.Link as link
use Rattle.mr_loop.specs.contracts.front.Front as front
use Rattle.mr_loop.specs.contracts.proxy_loop.ProxyLoop as proxy_loop
use Rattle.mr_text.specs.contracts.writing.gathering.FixedBuffer as buffer
use Rattle.mr_text.proofs.writing.gathering.FixedBuffer.TheSendSync as of_buffer
use Rattle.mr_text.proofs.reply.Reply.TheSendSync as of_reply
use Rattle.mr_text.specs.contracts.reply.Reply as reply
use Rattle.mr_loop.proofs.node.counts.ServedCounts.TheSendSync as of_served
use Rattle.mr_loop.specs.contracts.node.counts.ServedCounts as served
use Rattle.mr_loop.specs.declared.node.cache.Cache as cache
use Rattle.mr_loop.specs.contracts.node.client.NodeClient as node_client
use Rattle.mr_loop.specs.contracts.node.node_loop.NodeLoop as node_loop
use Rattle.mr_loop.specs.contracts.node.node_loop.NodeLoop.TheInside as inside

-- what the crates below show of their own types, and this one of its
item_send : IsSend item.the_row
item_send = of_item.the_send

begun_item_send : IsSend begun_item.the_field.row
begun_item_send = of_begun_item.the_send

begun_set_send : IsSend begun_set.the_field.row
begun_set_send = of_begun_set.the_send

kept_send : IsSend kept.the_field.row
kept_send = of_kept.the_send

core_send : IsSend proxy_core.the_field.row
core_send = of_core.the_send

turns_send : IsSend turns.the_field.row
turns_send = of_turns.the_send

input_send : IsSend input.the_field.row
input_send = of_input.the_field_send

sent_legs_send : IsSend sent_legs.the_field.row
sent_legs_send = of_sent_legs.the_send

link_counts_send : IsSend link_counts.the_field.row
link_counts_send = of_link_counts.the_field_send

loop_counts_send : IsSend loop_counts.the_field.row
loop_counts_send = of_loop_counts.the_field_send

client_counts_send : IsSend client_counts.the_field.row
client_counts_send = of_client_counts.the_field_send

limits_send : IsSend limits.the_field.row
limits_send = of_limits.the_field_send

scratch_send : IsSend scratch.the_field.row
scratch_send = of_scratch.the_field_send

-- what a reader keeps
spelled_send : IsSend spelled.the_field.row
spelled_send = search (crosses, sendable) depth 20

stream_send : IsSend stream.the_field.row
stream_send = search (spelled_send, kept_send, crosses, sendable) depth 20

unfinished_send : IsSend unfinished.the_field.row
unfinished_send = search (stream_send, begun_item_send, item_send, crosses, sendable) depth 20

-- a reader of requests
request_reader_send : IsSend request_reader.the_field.row
request_reader_send = search (stream_send, begun_set_send, crosses, sendable) depth 20

-- a reader of replies
reply_reader_send : IsSend reply_reader.the_field.row
reply_reader_send = search (unfinished_send, crosses, sendable) depth 20

-- bytes that wait
out_buffer_send : IsSend out_buffer.the_field.row
out_buffer_send = search (crosses, sendable) depth 20

-- a client
client_send : IsSend client.the_row
client_send = search (turns_send, out_buffer_send, crosses, sendable) depth 20

-- what a client sent
inbox_send : IsSend inbox.the_row
inbox_send = search (request_reader_send, input_send, crosses, sendable) depth 20

-- a link
link_send : IsSend link.the_row
link_send = search (reply_reader_send, out_buffer_send, sent_legs_send, link_counts_send, crosses, sendable) depth 20

-- the core and its clients
front_send : IsSend front.the_field.row
front_send = search (core_send, client_send, loop_counts_send, crosses, sendable) depth 20

-- a machine
pub loop_send : IsSend proxy_loop.the_row
loop_send = search (front_send, inbox_send, link_send, client_counts_send, limits_send, scratch_send, crosses, sendable) depth 20

-- a client of a node
reply_send : IsSend reply.the_field.row
reply_send = of_reply.the_field_send

buffer_send : IsSend buffer.the_row
buffer_send = of_buffer.the_send

served_send : IsSend served.the_field.row
served_send = of_served.the_field_send

own_inbox_send : IsSend inbox.the_field.row
own_inbox_send = search (request_reader_send, input_send, crosses, sendable) depth 20

node_client_send : IsSend node_client.the_row
node_client_send = search (own_inbox_send, out_buffer_send, reply_send, crosses, sendable) depth 20

-- the machine of a node, whose cache may cross threads
module _ (C : RattleType) (c : cache.Ghosts C.Denot) (may_c : IsSend C) where
  inside_send : IsSend (inside.the_row C c)
  inside_send = recorded_send (inside.the_field C c).row _ _ (inside.the_type C c).to_one (struct_send (shape (inside.the_type C c)) (
    search (crosses, sendable) depth 20,
    (
      search (may_c, crosses, sendable) depth 20,
      (
        search (node_client_send, crosses, sendable) depth 20,
        (search (crosses, sendable) depth 20, (search (served_send, crosses, sendable) depth 20, (search (buffer_send, crosses, sendable) depth 20, tt))),
      ),
    ),
  ))

  pub node_send : IsSend (node_loop.the_row C c)
  node_send = view_send _ _ _ _ _ inside_send
