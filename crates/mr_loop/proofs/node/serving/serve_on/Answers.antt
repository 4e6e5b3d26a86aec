use Rattle.mr_loop.specs.node.Serving.{seat}
use Rattle.mr_loop.proofs.ServingLemmas.{is_ready, begins_way, said, went, stops_memory, stops_done}
use Rattle.mr_loop.proofs.node.serving.serve_on.Goals as goal

pub input-init : goal.input-init
input-init g c = begins_way g.C.Cache.does c.args.reading c.args.most_unread (seat c.args.cache.now c.args.client.now c.args.counts.now) c.requires

pub input-preserved : goal.input-preserved
input-preserved g c =
    let old = seat c.args.cache.now c.args.client.now c.args.counts.now in
    went g.C.Cache.does c.args.reading c.args.most_unread old (seat c.input.cache c.tell_due.new.self c.input.counts) c.fetch.new.self c.in-Came.input
    (seat c.serve.new.cache c.serve.new.client c.serve.new.counts)
    (said g.C.Cache.does c.args.reading c.args.most_unread old (seat c.input.cache c.input.client c.input.counts) c.tell_due.new.self
    c.input.invariant c.tell_due.ensures.told c.tell_due.ensures.inbox)
    (is_ready c.args.most_unread c.len.result c.tell_due.new.self c.tell_due.result c.if-is_err.ensures.value c.tell_due.ensures.none c.len.ensures c.if-len-most_unread.false)
    c.in-Came.ensures c.serve.ensures

pub returns-in-Done-clause-serves : goal.returns-in-Done-clause-serves
returns-in-Done-clause-serves g c =
    let old = seat c.args.cache.now c.args.client.now c.args.counts.now in
    (stops_done g.C.Cache.does c.args.reading c.args.most_unread old (seat c.input.cache c.tell_due.new.self c.input.counts) c.fetch.new.self
    (said g.C.Cache.does c.args.reading c.args.most_unread old (seat c.input.cache c.input.client c.input.counts) c.tell_due.new.self
    c.input.invariant c.tell_due.ensures.told c.tell_due.ensures.inbox)
    (is_ready c.args.most_unread c.len.result c.tell_due.new.self c.tell_due.result c.if-is_err.ensures.value c.tell_due.ensures.none c.len.ensures c.if-len-most_unread.false)
    c.in-Done.ensures).0

pub returns-in-NoMemory-clause-serves : goal.returns-in-NoMemory-clause-serves
returns-in-NoMemory-clause-serves g c =
    let old = seat c.args.cache.now c.args.client.now c.args.counts.now in
    (stops_memory g.C.Cache.does c.args.reading c.args.most_unread old (seat c.input.cache c.tell_due.new.self c.input.counts) c.fetch.new.self
    (said g.C.Cache.does c.args.reading c.args.most_unread old (seat c.input.cache c.input.client c.input.counts) c.tell_due.new.self
    c.input.invariant c.tell_due.ensures.told c.tell_due.ensures.inbox)
    (is_ready c.args.most_unread c.len.result c.tell_due.new.self c.tell_due.result c.if-is_err.ensures.value c.tell_due.ensures.none c.len.ensures c.if-len-most_unread.false)
    c.in-NoMemory.ensures).0
