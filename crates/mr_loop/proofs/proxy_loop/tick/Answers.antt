use Rattle.std.proofs.Common.{◌<◌, length, get_or, refl, arith}
use Rattle.mr_loop.specs.declared.link.Link.{Link}
use Rattle.mr_loop.specs.Ticking.{ticked}
use Rattle.mr_loop.proofs.TickLemmas.{part_more, ticks_more}
use Rattle.mr_loop.proofs.proxy_loop.tick.Goals as goal

pub loop-number-preserved : goal.loop-number-preserved
loop-number-preserved c =
    let i = c.loop-number.invariant in
    let within : c.loop-number.number < length c.args.links.now = omega arith in
    let old : Link = get_or c.loop-number.links c.loop-number.number c.index-links-number.result in
    record {
      links = part_more (ticked c.args.bound c.args.now) c.args.links.now c.loop-number.links c.loop-number.number old c.tick_link.new.link c.index-links-number.result
          within i.links refl c.tick_link.ensures.link;
      front = ticks_more c.args.bound c.args.now c.loop-number.number c.args.links.now c.loop-number.links old c.index-links-number.result c.args.front.now c.loop-number.front
          c.tick_link.new.front within i.links refl i.front c.tick_link.ensures.front;
    }
