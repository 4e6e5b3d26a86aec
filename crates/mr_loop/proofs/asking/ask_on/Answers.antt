use Rattle.std.proofs.Common.{refl, sym, ◌∙◌}
use Rattle.mr_loop.specs.Asking.{DoesAll}
use Rattle.mr_loop.specs.steps.Asking.{asking}
use Rattle.mr_loop.proofs.AskLemmas.{less_left, less_done, stops_held, stops_unread}
use Rattle.mr_loop.proofs.asking.ask_on.Goals as goal

pub input-init : goal.input-init
input-init c = DoesAll.starts

pub input-preserved : goal.input-preserved
input-preserved c =
    DoesAll.goes_on c.input.invariant (record {
      input = c.in-Came.input;
      fetched = c.fetch.new.self;
      may = sym c.is_behind.ensures ∙ c.if-is_behind.false;
      came = c.in-Came.ensures;
      clear = c.in_default.ensures.0;
      done = c.in_default.ensures.1;
      goes_on = c.go_on.ensures;
      same_counts = refl;
    })

pub input-smaller : goal.input-smaller
input-smaller c =
    less_done c.input.inbox c.fetch.new.self c.go_on.new.self
    (less_left c.input.inbox c.fetch.new.self c.in-Came.input c.requests_leave_less.ensures c.skipped_lines_leave_less.ensures c.in-Came.ensures)
    c.go_on.ensures

pub returns-then-is_behind : goal.returns-then-is_behind
returns-then-is_behind c = record {
  between = asking c.input.inbox c.input.front c.input.links c.input.counts;
  did = c.input.invariant;
  stops = (sym c.is_behind.ensures ∙ c.if-is_behind.true, refl);
}

pub returns-in-Nothing : goal.returns-in-Nothing
returns-in-Nothing c = record {
  between = asking c.input.inbox c.input.front c.input.links c.input.counts;
  did = c.input.invariant;
  stops = (c.in-Nothing.ensures, record { may = sym c.is_behind.ensures ∙ c.if-is_behind.false; same_front = refl; same_links = refl; same_counts = refl });
}

pub returns-in-Done : goal.returns-in-Done
returns-in-Done c = record {
  between = asking c.input.inbox c.input.front c.input.links c.input.counts;
  did = c.input.invariant;
  stops = (c.in-Done.ensures, record { may = sym c.is_behind.ensures ∙ c.if-is_behind.false; same_front = refl; same_links = refl; same_counts = refl });
}

pub returns-in-NoMemory : goal.returns-in-NoMemory
returns-in-NoMemory c = record {
  between = asking c.input.inbox c.input.front c.input.links c.input.counts;
  did = c.input.invariant;
  stops = stops_unread c.args.asker (asking c.input.inbox c.input.front c.input.links c.input.counts) c.fetch.new.self c.wait.new.self c.add_held.new.self
      (sym c.is_behind.ensures ∙ c.if-is_behind.false) c.in-NoMemory.ensures c.wait.ensures c.add_held.ensures;
}

pub returns-in-Err : goal.returns-in-Err
returns-in-Err c = record {
  between = asking c.input.inbox c.input.front c.input.links c.input.counts;
  did = c.input.invariant;
  stops = stops_held c.args.asker (asking c.input.inbox c.input.front c.input.links c.input.counts) c.fetch.new.self c.hold.new.self
      c.in-Came.input c.in-Err.input c.in-Err.pause c.answer.new.front c.answer.new.links c.add_held-in-Err.new.self
      (sym c.is_behind.ensures ∙ c.if-is_behind.false) c.in-Came.ensures c.hold.ensures c.add_held-in-Err.ensures c.in-Err.ensures;
}
