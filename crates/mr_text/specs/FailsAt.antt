-- What a device that is made to fail once is.
use Rattle.std.specs.Prelude.{◌≡◌, ◌≢◌, ◌-◌, ℕ, [], None, false}
use Rattle.mr_text.specs.Sink.{SinkView}
use Rattle.mr_text.specs.Source.{SourceView}
use Rattle.mr_text.specs.declared.devices.fails_at.FailsAt.{FailsAt}

-- the number of the call, counted from the next one, that is made to fail; 0 for none
abbrev pub calls_until_failure : {D : Type 0} → FailsAt D → ℕ
calls_until_failure f = f.until

-- the device within
abbrev pub device_of : {D : Type 0} → FailsAt D → D
device_of f = f.inner

-- no call was made yet
pub record IsUnused {D : Type 0} (f : FailsAt D) : Type 0 where
  pub nothing_handed : f.handed ≡ []
  pub no_room : f.least_room ≡ None
  pub no_call : f.calls ≡ 0
  pub no_failure : f.failures ≡ 0
  pub not_failed : f.last_failed ≡ false

-- nothing but the number of the call that is made to fail is another
pub record IsSameBut {D : Type 0} (until : ℕ) (old new : FailsAt D) : Type 0 where
  pub counted : new.until ≡ until
  pub same_device : new.inner ≡ old.inner
  pub same_handed : new.handed ≡ old.handed
  pub same_room : new.least_room ≡ old.least_room
  pub same_calls : new.calls ≡ old.calls
  pub same_failures : new.failures ≡ old.failures
  pub same_last : new.last_failed ≡ old.last_failed

-- it as a source: what its device gave, and its own calls and failures
abbrev pub source_told : {D : Type 0} → (D → SourceView) → FailsAt D → SourceView
source_told told f =
    record { taken = (told f.inner).taken; left = (told f.inner).left; reads = f.calls; failures = f.failures; least_room = f.least_room }

-- it as a sink: what its device took, and its own calls and failures
abbrev pub sink_told : {D : Type 0} → (D → SinkView) → FailsAt D → SinkView
sink_told told f = record {
  written = (told f.inner).written;
  handed = f.handed;
  calls = f.calls;
  failures = f.failures;
  last_failed = f.last_failed;
  contents = (told f.inner).contents;
}

-- One call. The turn to fail comes once and leaves the device alone; every other call is this call of the device.
pub record TakesTurn {D : Type 0} (HasFailed CallsDevice : Type 0) (old new : FailsAt D) : Type 0 where
  pub counted : new.until ≡ old.until - 1
  pub fails : old.until ≡ 1 → HasFailed
  pub leaves : old.until ≡ 1 → new.inner ≡ old.inner
  pub passes : old.until ≢ 1 → CallsDevice
