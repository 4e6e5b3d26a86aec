-- The levels of the proxies' lanes.
use Rattle.std.specs.Prelude.{ℕ, ◌+◌, ◌==◌, ◌&&◌, ◌||◌, nat_lt, List, count_by, Bool, true, false}
use Rattle.mr_history.specs.declared.op_id.OpId.{OpId}
use Rattle.mr_drawing.specs.Places.{plus}
use Rattle.mr_drawing.specs.declared.steps.Step.{Step}
use Rattle.mr_drawing.specs.declared.steps.Step.TheVariants.{Issue}

-- a request was accepted before another one of the same proxy
abbrev pub comes_earlier : OpId → OpId → Bool
comes_earlier one other = nat_lt one.incarnation other.incarnation || ((one.incarnation == other.incarnation) && nat_lt one.number other.number)

-- the step issues a request that stands above this one: of a proxy before its own, or of the same before it
abbrev pub stands_above : OpId → Step → Bool
stands_above op (Issue issue) = nat_lt issue.op.proxy op.proxy || ((issue.op.proxy == op.proxy) && comes_earlier issue.op op)
stands_above op step = false

-- the step issues a request
abbrev pub is_issue : Step → Bool
is_issue (Issue issue) = true
is_issue step = false

-- the step issues a request at this proxy
abbrev pub is_issue_at : ℕ → Step → Bool
is_issue_at proxy (Issue issue) = issue.op.proxy == proxy
is_issue_at proxy step = false

-- the step issues a request at a proxy of a lower number
abbrev pub is_issue_below : ℕ → Step → Bool
is_issue_below proxy (Issue issue) = nat_lt issue.op.proxy proxy
is_issue_below proxy step = false

-- the level of a request: below the names of its proxy and those before it, and the requests that stand above it
abbrev pub level_of : List Step → OpId → ℕ
level_of steps op = plus (count_by (stands_above op) steps) (op.proxy + 1)

-- the first level of a proxy's lane
abbrev pub base_of : List Step → ℕ → ℕ
base_of steps proxy = plus (count_by (is_issue_below proxy) steps) proxy

-- how many levels it has: one for its name, and one for each request
abbrev pub height_of : List Step → ℕ → ℕ
height_of steps proxy = plus (count_by (is_issue_at proxy) steps) 1

-- how many levels the lanes of so many proxies have
abbrev pub levels_of : List Step → ℕ → ℕ
levels_of steps proxies = plus (count_by is_issue steps) proxies
