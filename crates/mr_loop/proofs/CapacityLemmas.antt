-- No request changes how many items a cache keeps at most.
use Rattle.std.proofs.Common.{◌≡◌, ◌∙◌, ◌⊎◌, inl, inr, ℕ, List, Option, Some, None, refl, ap}
use Rattle.mr_text.specs.declared.cause.Cause.{Cause}
use Rattle.mr_text.specs.declared.item.Item.{Item}
use Rattle.mr_text.specs.declared.reply.Reply.{Reply}
use Rattle.mr_text.specs.declared.request.Request.{Request}
use Rattle.mr_text.specs.declared.request.Request.TheVariants.{Get, Set, Delete, Quit}
use Rattle.mr_join.specs.declared.leg_reply.LegReply.{LegReply}
use Rattle.mr_node.specs.declared.command.NodeCommand.{NodeCommand}
use Rattle.mr_node.specs.Outcome.{Gets, LooksUp, FailsToLookUp, GetOutcome, CommandOutcome, OutcomeAt}
use Rattle.mr_node.specs.Recency.{CacheView, RecencyStep}

-- a command for which memory was refused changes nothing
abbrev pub unchanged : CacheView → ℕ → NodeCommand → CacheView → Type 0
unchanged old _ _ new = new ≡ old

-- a step
step_keeps : (old : CacheView) (now : ℕ) (command : NodeCommand) (reply : LegReply) (new : CacheView)
    → RecencyStep old now command reply new → new.capacity ≡ old.capacity
step_keeps old now command reply new step = ap (λ (c : CacheView). c.capacity) step.leaves

-- the lookup of a key
look_keeps : (old : CacheView) (now : ℕ) (key : List ℕ) (found : Option Item) (new : CacheView)
    → LooksUp RecencyStep old now key found new → new.capacity ≡ old.capacity
look_keeps old now key None new looked = step_keeps old now _ _ new looked
look_keeps old now key (Some item) new looked = step_keeps old now _ _ new looked.0

-- lookups, one after another
gets_keep : (now : ℕ) {old new : CacheView} {keys : List (List ℕ)} {items : List Item}
    → Gets RecencyStep now old keys items new → new.capacity ≡ old.capacity
gets_keep now Gets.begins = refl
gets_keep now {new = new} (Gets.looks {between = between} key found gets looked) =
    look_keeps between now key found new looked ∙ gets_keep now gets

-- a lookup that lacked memory, before it was performed or in it
lack_keeps : (old new : CacheView) → (new ≡ old) ⊎ (new ≡ old) → new.capacity ≡ old.capacity
lack_keeps old new (inl same) = ap (λ (c : CacheView). c.capacity) same
lack_keeps old new (inr same) = ap (λ (c : CacheView). c.capacity) same

-- a lookup that failed
fail_keeps : (old : CacheView) (now : ℕ) (key : List ℕ) (cause : Cause) (new : CacheView)
    → FailsToLookUp RecencyStep unchanged old now key cause new → new.capacity ≡ old.capacity
fail_keeps old now key cause new (inl failed) = step_keeps old now _ _ new failed
fail_keeps old now key cause new (inr lacked) = lack_keeps old new lacked.1

-- a get
get_keeps : (old : CacheView) (now : ℕ) (keys : List (List ℕ)) (outcome : Reply) (new : CacheView)
    → GetOutcome RecencyStep unchanged old now keys outcome new → new.capacity ≡ old.capacity
get_keeps old now keys outcome new (inl found) = gets_keep now found.1
get_keeps old now keys outcome new (inr failed) =
    let stops = failed.1 in
    fail_keeps stops.between now stops.key failed.0 new stops.fails ∙ gets_keep now stops.gets

-- a set or a delete
command_keeps : (old : CacheView) (now : ℕ) (command : NodeCommand) (outcome : Reply) (new : CacheView)
    → CommandOutcome RecencyStep unchanged old now command outcome new → new.capacity ≡ old.capacity
command_keeps old now command outcome new (inl done) = step_keeps old now command done.0 new done.1
command_keeps old now command outcome new (inr lacked) = ap (λ (c : CacheView). c.capacity) lacked.0

-- any request
pub outcome_keeps : (old : CacheView) (now : ℕ) (request : Request) (outcome : Reply) (new : CacheView)
    → OutcomeAt RecencyStep unchanged old now request outcome new → new.capacity ≡ old.capacity
outcome_keeps old now (Get keys) outcome new came = get_keeps old now keys outcome new came
outcome_keeps old now (Set key flags exptime block noreply) outcome new came = command_keeps old now _ outcome new came
outcome_keeps old now (Delete key noreply) outcome new came = command_keeps old now _ outcome new came
outcome_keeps old now Quit outcome new came = absurd came
