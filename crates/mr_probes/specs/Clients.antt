-- A client, and what the bytes come to that come over its connection.
use Rattle.std.specs.Prelude.{◌≡◌, ◌≢◌, ℕ, ◌-◌, ◌⊎◌, ◌↔◌, nat_lt, Bool, true, false, IsTrue, List, [], ◌++◌, drop}
use Rattle.mr_text.specs.Replies.{SpellsReply, RefusesReply}
use Rattle.mr_text.specs.Stream.{BeginsWith, IsUnfinished}
use Rattle.mr_text.specs.declared.error.TextError.{TextError}
use Rattle.mr_text.specs.declared.reply.Reply.{Reply}
use Rattle.mr_canary.specs.Notes.{sets_of}
use Rattle.mr_probes.specs.NotebookView.{NotebookView}
use Rattle.mr_probes.specs.Said.{Says}
use Rattle.mr_probes.specs.declared.answering.Said.{Said}
use Rattle.mr_probes.specs.declared.client.Client.{Client}
use Rattle.mr_probes.specs.declared.client.Client.TheVariants.{Down, Idle, Waits}
use Rattle.mr_probes.specs.declared.client.Hearing.{Hearing}
use Rattle.mr_probes.specs.declared.client.Hearing.TheVariants as hears
use Rattle.mr_probes.specs.declared.client.Waiting.{Waiting}

-- it has a connection
abbrev pub is_up : Client → Bool
is_up Down = false
is_up Idle = true
is_up (Waits waiting) = true

-- it has a connection, and asks nothing
abbrev pub is_idle : Client → Bool
is_idle Down = false
is_idle Idle = true
is_idle (Waits waiting) = false

-- it waits for a reply
abbrev pub is_waiting : Client → Bool
is_waiting Down = false
is_waiting Idle = false
is_waiting (Waits waiting) = true

-- the request waits for longer than so many microseconds
abbrev pub is_late : ℕ → ℕ → Waiting → Bool
is_late give_up now waiting = nat_lt give_up (now - waiting.asking.probe.time)

-- the client waits for longer than so many microseconds
abbrev pub is_late_client : ℕ → ℕ → Client → Bool
is_late_client give_up now Down = false
is_late_client give_up now Idle = false
is_late_client give_up now (Waits waiting) = is_late give_up now waiting

-- what is to be written over its connection
abbrev pub output_of : Client → List ℕ
output_of Down = []
output_of Idle = []
output_of (Waits waiting) = waiting.unsent

-- so many bytes of that were written
abbrev pub with_written : ℕ → Client → Client
with_written count Down = Down
with_written count Idle = Idle
with_written count (Waits waiting) = Waits (record waiting { unsent = drop count waiting.unsent })

-- The bytes are no reply to this request: what they begin with is refused, or says nothing of it.
abbrev pub IsNoReply : (run sets : ℕ) → Waiting → List ℕ → Type 0
IsNoReply run sets waiting bytes =
    ((refusal : TextError) × RefusesReply refusal bytes)
    ⊎ ((reply : Reply) × (rest : List ℕ) × BeginsWith SpellsReply bytes reply rest
    × ((said : Said) → ¬ Says waiting.asking.command run waiting.asking.probe.key sets reply said))

-- The bytes begin with a reply that says this of the request, and these stand behind it.
pub record SaysOf (run sets : ℕ) (waiting : Waiting) (bytes : List ℕ) (said : Said) (rest : List ℕ) : Type 0 where
  pub reply : Reply
  pub begins : BeginsWith SpellsReply bytes reply rest
  pub says : Says waiting.asking.command run waiting.asking.probe.key sets reply said

-- Bytes come behind those that came of the reply.
module _ (run sets : ℕ) (bytes : List ℕ) where
  abbrev pub HearsReply : Waiting → Hearing → Waiting → Type 0
  HearsReply old hears.Part new =
      (old.unsent ≡ []) × IsUnfinished SpellsReply RefusesReply (old.heard ++ bytes) × (new ≡ record old { heard = old.heard ++ bytes })
  HearsReply old (hears.Says said is_all) new =
      (old.unsent ≡ []) × (rest : List ℕ) × SaysOf run sets old (old.heard ++ bytes) said rest × (IsTrue is_all ↔ (rest ≡ []))
      × (new.asking ≡ old.asking)
  HearsReply old hears.Nonsense new = ((old.unsent ≢ []) ⊎ IsNoReply run sets old (old.heard ++ bytes)) × (new.asking ≡ old.asking)
  HearsReply old hears.NoMemory new = new.asking ≡ old.asking

-- the same of a client: where none waits for a reply, any bytes are nonsense
module _ (notebook : NotebookView) (bytes : List ℕ) where
  -- of a client that waits
  abbrev pub HearsWaiting : Waiting → Hearing → Client → Type 0
  HearsWaiting old hearing (Waits new) = HearsReply notebook.run (sets_of notebook.judge.notes old.asking.probe.key) bytes old hearing new
  HearsWaiting old hearing Down = ⊥
  HearsWaiting old hearing Idle = ⊥

  -- of any client
  abbrev pub HearsBytes : Client → Hearing → Client → Type 0
  HearsBytes Down hearing new = (hearing ≡ hears.Nonsense) × (new ≡ Down)
  HearsBytes Idle hearing new = (hearing ≡ hears.Nonsense) × (new ≡ Idle)
  HearsBytes (Waits old) hearing new = HearsWaiting old hearing new
