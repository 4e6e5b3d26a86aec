-- That the table of what is told has a row of each refusal, and no other.
use Rattle.std.proofs.Common.{◌≡◌, ◌&&◌, ◌==◌, inl, inr, ap, refl, sym, subst, ◌∙◌, ℕ, Bool, true, false, cond, List, [], ◌∷◌, ◌++◌, Option, Some, None, option_map, find, map, codes}
use Rattle.std.specs.Prelude.{IfSome, IsSome, IsSomeAnd}
use Rattle.std.specs.Fmt.{digits}
use Rattle.std.specs.Option.{option_or}
use Rattle.std.specs.Str.{bytes_eq}
use Rattle.std.proofs.lemmas.Bool.Decides.{Decides-eqb}
use Rattle.std.proofs.lemmas.List.Folds.{find-append}
use Rattle.std.proofs.lemmas.Slice.Eq.{bytes_eq-Decides}
use Rattle.mr_text.specs.TextError.{number_of_refusal as text_number}
use Rattle.mr_text.specs.declared.error.TextError.{TextError}
use Rattle.mr_text.specs.declared.error.TextError.TheVariants as text
use Rattle.mr_pools.specs.PoolError.{number_of_refusal as pool_number}
use Rattle.mr_pools.specs.declared.error.PoolError.{PoolError}
use Rattle.mr_pools.specs.declared.error.PoolError.TheVariants as pool
use Rattle.mr_clock.specs.ClockError.{number_of_refusal as clock_number}
use Rattle.mr_clock.specs.declared.error.ClockError.{ClockError}
use Rattle.mr_clock.specs.declared.error.ClockError.TheVariants as clock
use Rattle.mr_phases.specs.ScheduleError.{number_of_refusal as schedule_number}
use Rattle.mr_phases.specs.declared.error.ScheduleError.{ScheduleError}
use Rattle.mr_phases.specs.declared.error.ScheduleError.TheVariants as schedule
use Rattle.mr_node.specs.NodeError.{number_of_refusal as node_number}
use Rattle.mr_node.specs.declared.error.NodeError.{NodeError}
use Rattle.mr_node.specs.declared.error.NodeError.TheVariants as node
use Rattle.mr_proxy.specs.ProxyError.{number_of_refusal as proxy_number}
use Rattle.mr_proxy.specs.declared.error.ProxyError.{ProxyError}
use Rattle.mr_proxy.specs.declared.error.ProxyError.TheVariants as proxy
use Rattle.mr_proxy.specs.WorldError.{number_of_refusal as world_number}
use Rattle.mr_proxy.specs.declared.world_error.WorldError.{WorldError}
use Rattle.mr_proxy.specs.declared.world_error.WorldError.TheVariants as world
use Rattle.mr_desks.specs.declared.error.WorkerError.TheVariants as worker
use Rattle.mr_configs.specs.PlanError.{number_of_refusal as plan_number}
use Rattle.mr_configs.specs.declared.error.PlanError.{PlanError}
use Rattle.mr_configs.specs.declared.error.PlanError.TheVariants as plan
use Rattle.mr_words.specs.Explain.{Told, HasRefusal, IsComplete, IsNamed, IsToldAs, explanation_of, is_of, lower_table, table, upper_table}
use Rattle.mr_words.specs.Lines.{text_fault_line, pool_fault_line, schedule_fault_line, node_fault_line, plan_fault_line}
use Rattle.mr_words.specs.Names.{text_name, pool_name, clock_name, schedule_name, node_name, proxy_name, world_name, WorkersRefusal, of_worker, of_full_book, workers_number, workers_name, plan_name}

-- what is found among rows by what they tell is found in what they tell
found_in_told : {X Y : Type 0} (f : X → Y) (p : Y → Bool) (xs : List X) → option_map f (find (λ x. p (f x)) xs) ≡ find p (map f xs)
found_in_told f p [] = refl
found_in_told {X = X} {Y = Y} f p (x ∷ xs) =
    elim (p (f x)) as (λ b. option_map f (cond b (Some x) (find (λ x'. p (f x')) xs)) ≡ cond b (Some (f x)) (find p (map f xs))) [
      | true ↦ refl
      | false ↦ found_in_told f p xs
    ]

-- what is told of the row that was found
pub row_told : {X : Type 0} (f : X → Told) (p : Told → Bool) (rows : List X) (found : Option X) → found ≡ find (λ row. p (f row)) rows
    → option_map f found ≡ find p (map f rows)
row_told f p rows found is = ap (option_map f) is ∙ found_in_told f p rows

-- what is told by the first table is told by both
pub told_first : (p : Told → Bool) (first second rows : List Told) (told : Told) → Some told ≡ find p rows → rows ≡ first
    → Some told ≡ find p (first ++ second)
told_first p first second rows told found is =
    sym (find-append p first second ∙ ap (λ o. option_or o (find p second)) (sym (found ∙ ap (find p) is)))

-- where the first tells nothing, the second tells what both do
pub told_second : (p : Told → Bool) (first second rows rows' : List Told) (found : Option Told) → None ≡ find p rows → rows ≡ first
    → found ≡ find p rows' → rows' ≡ second → found ≡ find p (first ++ second)
told_second p first second rows rows' found none is told is' =
    (told ∙ ap (find p) is') ∙ sym (find-append p first second ∙ ap (λ o. option_or o (find p second)) (sym (none ∙ ap (find p) is)))

-- a fact of each member
Each : {Y : Type 0} → (Y → Type 0) → List Y → Type 0
Each P [] = Unit {0}
Each P (y ∷ ys) = P y × Each P ys

-- what is found passes the test, and each member's fact holds of it
module _ {Y : Type 0} (p : Y → Bool) (P : Y → Type 0) where
  first_or : (y : Y) (b : Bool) (rest : Option Y) → p y ≡ b → P y → IfSome rest (λ z. (p z ≡ true) × P z)
      → IfSome (cond b (Some y) rest) (λ z. (p z ≡ true) × P z)
  first_or y true rest e h none = (e, h)
  first_or y false rest e h none = none

  found_so : (ys : List Y) → Each P ys → IfSome (find p ys) (λ z. (p z ≡ true) × P z)
  unfolding Each
  found_so [] h = tt
  found_so (y ∷ ys) h = first_or y (p y) (find p ys) refl h.0 (found_so ys h.1)

both_true : (a b : Bool) → (a && b) ≡ true → (a ≡ true) × (b ≡ true)
both_true true b h = (refl, h)
both_true false b h = cc

-- what is of a layer and a number has them
has_own : (layer : List ℕ) (number : ℕ) (told : Told) → is_of layer number told ≡ true → (told.layer ≡ layer) × (told.number ≡ number)
has_own layer number told h =
    let both = both_true (told.number == number) (bytes_eq told.layer layer) h in
    ((bytes_eq-Decides told.layer layer).0 both.1, (Decides-eqb told.number number).0 both.0)

of_text : (refusal : TextError) → IsNamed (codes "text") (text_number refusal) (text_name refusal)
of_text refusal = inl (refl, (refusal, refl, refl))

of_pool : (refusal : PoolError) → IsNamed (codes "pools") (pool_number refusal) (pool_name refusal)
of_pool refusal = inr (inl (refl, (refusal, refl, refl)))

of_clock : (refusal : ClockError) → IsNamed (codes "clock") (clock_number refusal) (clock_name refusal)
of_clock refusal = inr (inr (inl (refl, (refusal, refl, refl))))

of_schedule : (refusal : ScheduleError) → IsNamed (codes "phases") (schedule_number refusal) (schedule_name refusal)
of_schedule refusal = inr (inr (inr (inl (refl, (refusal, refl, refl)))))

of_node : (refusal : NodeError) → IsNamed (codes "node") (node_number refusal) (node_name refusal)
of_node refusal = inr (inr (inr (inr (inl (refl, (refusal, refl, refl))))))

of_proxy : (refusal : ProxyError) → IsNamed (codes "proxy") (proxy_number refusal) (proxy_name refusal)
of_proxy refusal = inr (inr (inr (inr (inr (inl (refl, (refusal, refl, refl)))))))

of_world : (refusal : WorldError) → IsNamed (codes "world") (world_number refusal) (world_name refusal)
of_world refusal = inr (inr (inr (inr (inr (inr (inl (refl, (refusal, refl, refl))))))))

of_workers : (refusal : WorkersRefusal) → IsNamed (codes "workers") (workers_number refusal) (workers_name refusal)
of_workers refusal = inr (inr (inr (inr (inr (inr (inr (inl (refl, (refusal, refl, refl)))))))))

of_plan : (refusal : PlanError) → IsNamed (codes "plan") (plan_number refusal) (plan_name refusal)
of_plan refusal = inr (inr (inr (inr (inr (inr (inr (inr (refl, (refusal, refl, refl)))))))))

-- a fact of one row, and those of the rows behind it
infixr 30 ◌also◌
◌also◌ : {A B : Type 0} → A → B → A × B
◌also◌ a b = (a, b)

-- each row is of a refusal, under its name
each_known : Each (λ told. IsNamed told.layer told.number told.name) table
unfolding table lower_table upper_table Each
each_known =
    of_text text.LineTooLong
    also of_text text.BadKey
    also of_text text.BadNumber
    also of_text text.WrongWords
    also of_text text.DataTooLong
    also of_text text.BadDataEnd
    also of_text (text.UnknownCommand false)
    also of_text text.Truncated
    also of_text text.Closed
    also of_text text.OutOfMemory
    also of_pool pool.EmptyPool
    also of_pool pool.TooManyNodes
    also of_pool pool.BadName
    also of_pool pool.RepeatedName
    also of_pool pool.SharedName
    also of_pool pool.OutOfMemory
    also of_pool pool.TooManyPools
    also of_clock clock.ClockFault
    also of_clock clock.NoSuchProxy
    also of_clock clock.OutOfMemory
    also of_schedule schedule.ZeroInterval
    also of_schedule schedule.TooLate
    also of_schedule schedule.TooSoon
    also of_schedule schedule.TooManyHops
    also of_node node.ZeroCapacity
    also of_node node.OutOfMemory
    also of_node node.ReadFault
    also of_node node.WriteFault
    also of_node node.TurnsSpent
    also of_proxy proxy.NoRoom
    also of_proxy proxy.OutOfMemory
    also of_proxy proxy.NumbersSpent
    also of_proxy proxy.NoSuchOp
    also of_world world.NoSuchProxy
    also of_world world.NoSuchNode
    also of_world world.NoSuchMessage
    also of_world (world.IssueRefused proxy.NoRoom)
    also of_world world.OutOfMemory
    also of_world world.NoSuchOp
    also of_world world.HopsDiffer
    also of_workers (of_worker worker.LinkBroken)
    also of_workers (of_worker worker.Mismatch)
    also of_workers of_full_book
    also of_workers (of_worker worker.BookDiffers)
    also of_workers (of_worker worker.ReadFault)
    also of_workers (of_worker worker.WriteFault)
    also of_workers (of_worker worker.TurnsSpent)
    also of_workers (of_worker worker.OutOfMemory)
    also of_workers (of_worker worker.NoThread)
    also of_plan plan.NotJson
    also of_plan plan.WrongKind
    also of_plan plan.MissingKey
    also of_plan plan.UnknownKey
    also of_plan (plan.BadPool pool.EmptyPool)
    also of_plan plan.BadRoute
    also of_plan (plan.BadSchedule schedule.ZeroInterval)
    also of_plan plan.BadHash
    also of_plan (plan.BadSetup world.NoSuchProxy)
    also of_plan (plan.BadEvent 0)
    also of_plan plan.TooLarge
    also of_plan (plan.EventRefused 0 world.NoSuchProxy)
    also of_plan plan.OutOfMemory
    also tt

-- each refusal of the layer has a row, under the line of its fault
text_told : (refusal : TextError) → IsToldAs (text_fault_line refusal) (explanation_of (codes "text") (text_number refusal))
unfolding table lower_table upper_table digits
text_told text.LineTooLong = refl
text_told text.BadKey = refl
text_told text.BadNumber = refl
text_told text.WrongWords = refl
text_told text.DataTooLong = refl
text_told text.BadDataEnd = refl
text_told (text.UnknownCommand carried) = refl
text_told text.Truncated = refl
text_told text.Closed = refl
text_told text.OutOfMemory = refl

-- each refusal of the layer has a row, under the line of its fault
pool_told : (refusal : PoolError) → IsToldAs (pool_fault_line refusal) (explanation_of (codes "pools") (pool_number refusal))
unfolding table lower_table upper_table digits
pool_told pool.EmptyPool = refl
pool_told pool.TooManyNodes = refl
pool_told pool.BadName = refl
pool_told pool.RepeatedName = refl
pool_told pool.SharedName = refl
pool_told pool.OutOfMemory = refl
pool_told pool.TooManyPools = refl

-- each refusal of the layer has a row
clock_known : (refusal : ClockError) → IsSome (explanation_of (codes "clock") (clock_number refusal))
unfolding table lower_table upper_table
clock_known clock.ClockFault = refl
clock_known clock.NoSuchProxy = refl
clock_known clock.OutOfMemory = refl

-- each refusal of the layer has a row, under the line of its fault
schedule_told : (refusal : ScheduleError) → IsToldAs (schedule_fault_line refusal) (explanation_of (codes "phases") (schedule_number refusal))
unfolding table lower_table upper_table digits
schedule_told schedule.ZeroInterval = refl
schedule_told schedule.TooLate = refl
schedule_told schedule.TooSoon = refl
schedule_told schedule.TooManyHops = refl

-- each refusal of the layer has a row, under the line of its fault
node_told : (refusal : NodeError) → IsToldAs (node_fault_line refusal) (explanation_of (codes "node") (node_number refusal))
unfolding table lower_table upper_table digits
node_told node.ZeroCapacity = refl
node_told node.OutOfMemory = refl
node_told node.ReadFault = refl
node_told node.WriteFault = refl
node_told node.TurnsSpent = refl

-- each refusal of the layer has a row
proxy_known : (refusal : ProxyError) → IsSome (explanation_of (codes "proxy") (proxy_number refusal))
unfolding table lower_table upper_table
proxy_known proxy.NoRoom = refl
proxy_known proxy.OutOfMemory = refl
proxy_known proxy.NumbersSpent = refl
proxy_known proxy.NoSuchOp = refl

-- each refusal of the layer has a row
world_known : (refusal : WorldError) → IsSome (explanation_of (codes "world") (world_number refusal))
unfolding table lower_table upper_table
world_known world.NoSuchProxy = refl
world_known world.NoSuchNode = refl
world_known world.NoSuchMessage = refl
world_known (world.IssueRefused carried) = refl
world_known world.OutOfMemory = refl
world_known world.NoSuchOp = refl
world_known world.HopsDiffer = refl

-- each refusal of the layer has a row
workers_known : (refusal : WorkersRefusal) → IsSome (explanation_of (codes "workers") (workers_number refusal))
unfolding table lower_table upper_table
workers_known (of_worker worker.LinkBroken) = refl
workers_known (of_worker worker.Mismatch) = refl
workers_known of_full_book = refl
workers_known (of_worker worker.BookDiffers) = refl
workers_known (of_worker worker.ReadFault) = refl
workers_known (of_worker worker.WriteFault) = refl
workers_known (of_worker worker.TurnsSpent) = refl
workers_known (of_worker worker.OutOfMemory) = refl
workers_known (of_worker worker.NoThread) = refl

-- each refusal of the layer has a row, under the line of its fault
plan_told : (refusal : PlanError) → IsToldAs (plan_fault_line refusal) (explanation_of (codes "plan") (plan_number refusal))
unfolding table lower_table upper_table digits
plan_told plan.NotJson = refl
plan_told plan.WrongKind = refl
plan_told plan.MissingKey = refl
plan_told plan.UnknownKey = refl
plan_told (plan.BadPool carried) = refl
plan_told plan.BadRoute = refl
plan_told (plan.BadSchedule carried) = refl
plan_told plan.BadHash = refl
plan_told (plan.BadSetup carried) = refl
plan_told (plan.BadEvent carried) = refl
plan_told plan.TooLarge = refl
plan_told (plan.EventRefused index carried) = refl
plan_told plan.OutOfMemory = refl

is_there : {Y : Type 0} (found : Option Y) (P : Y → Type 0) → IsSomeAnd found P → IsSome found
is_there None P h = absurd h
is_there (Some y) P h = refl

there_by : (layer word : List ℕ) (number same : ℕ) → layer ≡ word → number ≡ same → IsSome (explanation_of word same)
    → IsSome (explanation_of layer number)
there_by layer word number same e f h =
    subst (λ (l : List ℕ). IsSome (explanation_of l number)) (sym e) (subst (λ (n : ℕ). IsSome (explanation_of word n)) (sym f) h)

each_told : (layer : List ℕ) (number : ℕ) (name : List ℕ) → IsNamed layer number name → IsSome (explanation_of layer number)
each_told layer number name (inl h) = there_by layer (codes "text") number (text_number h.1.0) h.0 h.1.1 (is_there _ _ (text_told h.1.0))
each_told layer number name (inr (inl h)) = there_by layer (codes "pools") number (pool_number h.1.0) h.0 h.1.1 (is_there _ _ (pool_told h.1.0))
each_told layer number name (inr (inr (inl h))) = there_by layer (codes "clock") number (clock_number h.1.0) h.0 h.1.1 (clock_known h.1.0)
each_told layer number name (inr (inr (inr (inl h)))) = there_by layer (codes "phases") number (schedule_number h.1.0) h.0 h.1.1 (is_there _ _ (schedule_told h.1.0))
each_told layer number name (inr (inr (inr (inr (inl h))))) = there_by layer (codes "node") number (node_number h.1.0) h.0 h.1.1 (is_there _ _ (node_told h.1.0))
each_told layer number name (inr (inr (inr (inr (inr (inl h)))))) = there_by layer (codes "proxy") number (proxy_number h.1.0) h.0 h.1.1 (proxy_known h.1.0)
each_told layer number name (inr (inr (inr (inr (inr (inr (inl h))))))) = there_by layer (codes "world") number (world_number h.1.0) h.0 h.1.1 (world_known h.1.0)
each_told layer number name (inr (inr (inr (inr (inr (inr (inr (inl h)))))))) = there_by layer (codes "workers") number (workers_number h.1.0) h.0 h.1.1 (workers_known h.1.0)
each_told layer number name (inr (inr (inr (inr (inr (inr (inr (inr h)))))))) = there_by layer (codes "plan") number (plan_number h.1.0) h.0 h.1.1 (is_there _ _ (plan_told h.1.0))

-- what is found of a layer and a number has them, and the name there
abbrev IsFound : List ℕ → ℕ → Told → Type 0
IsFound layer number told = (is_of layer number told ≡ true) × IsNamed told.layer told.number told.name

its_name : (layer : List ℕ) (number : ℕ) (told : Told) → IsFound layer number told → IsNamed layer number told.name
its_name layer number told h =
    let own = has_own layer number told h.0 in
    subst (λ (l : List ℕ). IsNamed l number told.name) own.0 (subst (λ (n : ℕ). IsNamed told.layer n told.name) own.1 h.1)

found_refusal : (layer : List ℕ) (number : ℕ) (found : Option Told) → IfSome found (IsFound layer number) → IsSome found → HasRefusal layer number
found_refusal layer number None h some = cc
found_refusal layer number (Some told) h some = (told.name, its_name layer number told h)

found_own : (layer : List ℕ) (number : ℕ) (found : Option Told) → IfSome found (IsFound layer number)
    → IfSome found (λ told. (told.layer ≡ layer) × (told.number ≡ number))
found_own layer number None h = tt
found_own layer number (Some told) h = has_own layer number told h.0

found_named : (layer : List ℕ) (number : ℕ) (found : Option Told) → IfSome found (IsFound layer number)
    → IfSome found (λ told. IsNamed layer number told.name)
found_named layer number None h = tt
found_named layer number (Some told) h = its_name layer number told h

what_is_found : (layer : List ℕ) (number : ℕ) → IfSome (explanation_of layer number) (IsFound layer number)
what_is_found layer number = found_so (is_of layer number) (λ told. IsNamed told.layer told.number told.name) table each_known

pub table_complete : IsComplete explanation_of
table_complete = record {
  own = λ layer number. found_own layer number (explanation_of layer number) (what_is_found layer number);
  known = λ layer number. (
    found_refusal layer number (explanation_of layer number) (what_is_found layer number),
    λ h. each_told layer number h.0 h.1,
  );
  named = λ layer number. found_named layer number (explanation_of layer number) (what_is_found layer number);
  text = text_told;
  pools = pool_told;
  phases = schedule_told;
  node = node_told;
  plan = plan_told;
}
