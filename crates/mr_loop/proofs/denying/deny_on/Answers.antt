use Rattle.std.proofs.Common.{inl, inr, refl, sym, ◌∙◌}
use Rattle.mr_loop.specs.NoReading.{DeniesAll, denying}
use Rattle.mr_loop.proofs.AskLemmas.{less_left, less_done}
use Rattle.mr_loop.proofs.denying.deny_on.Goals as goal

pub input-init : goal.input-init
input-init c = DeniesAll.starts

pub input-preserved : goal.input-preserved
input-preserved c =
    DeniesAll.goes_on c.input.invariant (record {
      input = c.in-Came.input;
      fetched = c.fetch.new.self;
      may = sym c.is_behind.ensures ∙ c.if-is_behind.false;
      came = c.in-Came.ensures;
      goes_on = c.go_on.ensures;
      told = c.in_default.ensures.told;
      same_counts = refl;
    })

pub input-preserved-in_default : goal.input-preserved-in_default
input-preserved-in_default c =
    DeniesAll.goes_on c.input.invariant (record {
      input = c.in-Came.input;
      fetched = c.fetch.new.self;
      may = sym c.is_behind.ensures ∙ c.if-is_behind.false;
      came = c.in-Came.ensures;
      goes_on = c.go_on.ensures;
      told = c.in_default.ensures.told;
      same_counts = refl;
    })

pub input-preserved-in_default-2 : goal.input-preserved-in_default-2
input-preserved-in_default-2 c =
    DeniesAll.goes_on c.input.invariant (record {
      input = c.in-Came.input;
      fetched = c.fetch.new.self;
      may = sym c.is_behind.ensures ∙ c.if-is_behind.false;
      came = c.in-Came.ensures;
      goes_on = c.go_on.ensures;
      told = c.in_default.ensures.told;
      same_counts = refl;
    })

pub input-preserved-in_default-3 : goal.input-preserved-in_default-3
input-preserved-in_default-3 c =
    DeniesAll.goes_on c.input.invariant (record {
      input = c.in-Came.input;
      fetched = c.fetch.new.self;
      may = sym c.is_behind.ensures ∙ c.if-is_behind.false;
      came = c.in-Came.ensures;
      goes_on = c.go_on.ensures;
      told = c.in_default.ensures.told;
      same_counts = refl;
    })

pub input-preserved-in_default-4 : goal.input-preserved-in_default-4
input-preserved-in_default-4 c =
    DeniesAll.goes_on c.input.invariant (record {
      input = c.in-Came.input;
      fetched = c.fetch.new.self;
      may = sym c.is_behind.ensures ∙ c.if-is_behind.false;
      came = c.in-Came.ensures;
      goes_on = c.go_on.ensures;
      told = c.in_default.ensures.told;
      same_counts = refl;
    })

pub input-smaller : goal.input-smaller
input-smaller c =
    less_done c.input.inbox c.fetch.new.self c.go_on.new.self
    (less_left c.input.inbox c.fetch.new.self c.in-Came.input c.requests_leave_less.ensures c.skipped_lines_leave_less.ensures c.in-Came.ensures)
    c.go_on.ensures

pub returns-then-is_behind : goal.returns-then-is_behind
returns-then-is_behind c = record {
  between = denying c.input.inbox c.input.front c.input.counts;
  did = c.input.invariant;
  stops = (sym c.is_behind.ensures ∙ c.if-is_behind.true, refl);
}

pub returns-in-Nothing : goal.returns-in-Nothing
returns-in-Nothing c = record {
  between = denying c.input.inbox c.input.front c.input.counts;
  did = c.input.invariant;
  stops = (c.in-Nothing.ensures, record { may = sym c.is_behind.ensures ∙ c.if-is_behind.false; same_front = refl; same_counts = refl });
}

pub returns-in-Done : goal.returns-in-Done
returns-in-Done c = record {
  between = denying c.input.inbox c.input.front c.input.counts;
  did = c.input.invariant;
  stops = (c.in-Done.ensures, record { may = sym c.is_behind.ensures ∙ c.if-is_behind.false; same_front = refl; same_counts = refl });
}

pub returns-in-NoMemory : goal.returns-in-NoMemory
returns-in-NoMemory c = record {
  between = denying c.input.inbox c.input.front c.input.counts;
  did = c.input.invariant;
  stops = record {
    fetched = c.fetch.new.self;
    may = sym c.is_behind.ensures ∙ c.if-is_behind.false;
    held = inl (c.in-NoMemory.ensures, c.wait.ensures);
    same_front = refl;
    counted = c.add_held.ensures;
  };
}

pub returns-in-Err : goal.returns-in-Err
returns-in-Err c = record {
  between = denying c.input.inbox c.input.front c.input.counts;
  did = c.input.invariant;
  stops = record {
    fetched = c.fetch.new.self;
    may = sym c.is_behind.ensures ∙ c.if-is_behind.false;
    held = inr (c.in-Came.input, c.in-Came.ensures, c.hold.ensures);
    same_front = c.in-Err.ensures.unchanged;
    counted = c.add_held-in-Err.ensures;
  };
}
