-- What single steps of serving a node's client do.
use Rattle.std.specs.Prelude.{◌≡◌, ℕ, ◌++◌}
use Rattle.mr_text.specs.declared.error.TextError.{TextError}
use Rattle.mr_text.specs.declared.reply.Reply.{Reply}
use Rattle.mr_text.specs.declared.request.Request.{Request}
use Rattle.mr_node.specs.Output.{IsServed, reply_to_refusal, text_of_answer, text_of_exchange}
use Rattle.mr_node.specs.Output.Exchange.{Asked}
use Rattle.mr_loop.specs.declared.inbox.Input.{Input}
use Rattle.mr_loop.specs.declared.inbox.Input.TheVariants as input
use Rattle.mr_loop.specs.node.Cache.{Does}
use Rattle.mr_loop.specs.node.Counts.{exchange_counted}
use Rattle.mr_loop.specs.node.Serving.{Seat, AsksOnce, to_tell}

-- a request that came asks something
abbrev pub IsAsked : Input → Type 0
IsAsked (input.Asks request) = IsServed request
IsAsked (input.Refused refusal) = Unit {0}

-- a request was asked of the cache, in one step, and its client is told what it came to
pub record ServesRequest {C : Type 0} (does : Does C) (reading : ℕ) (request : Request) (old new : Seat C) : Type 0 where
  pub told : Reply
  pub asks : AsksOnce does reading old.cache (Asked request told) new.cache
  pub tells : to_tell new.client ≡ to_tell old.client ++ text_of_exchange (Asked request told)
  pub counted : new.counts ≡ exchange_counted (Asked request told) old.counts
  pub same_inbox : new.client.inbox ≡ old.client.inbox

-- a refused text was answered, where it gets an answer, and nothing else happened
pub record ServesRefusal {C : Type 0} (refusal : TextError) (old new : Seat C) : Type 0 where
  pub same_cache : new.cache ≡ old.cache
  pub tells : to_tell new.client ≡ to_tell old.client ++ text_of_answer (reply_to_refusal refusal)
  pub same_counts : new.counts ≡ old.counts
  pub same_inbox : new.client.inbox ≡ old.client.inbox

-- one thing that came was served
abbrev pub ServesInput : {C : Type 0} → Does C → ℕ → Input → Seat C → Seat C → Type 0
ServesInput does reading (input.Asks request) old new = ServesRequest does reading request old new
ServesInput does reading (input.Refused refusal) old new = ServesRefusal refusal old new
