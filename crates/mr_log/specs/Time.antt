-- When a line is said.
use Rattle.std.specs.Prelude.{◌≡◌, ℕ, ◌<◌, ◌≤◌, ◌⊎◌, ℤ, pos, List, ◌++◌, Option, None, Some, codes, decimal}
use Rattle.jiff_core.specs.DateTime.{civil_nanos}
use Rattle.jiff_core.specs.Timestamp.{nanos_of_seconds}
use Rattle.jiff_core.specs.declared.civil.datetime.DateTime.{DateTime}
use Rattle.jiff_fmt.specs.Text.{date_text, time_text}

-- the last second that has a date here, 22:00:00 of 30 December 9999
abbrev pub last_second : ℕ
last_second = 253402207200

-- the date and the time of day so many nanoseconds after the epoch in UTC, as in 2026-11-29T04:05:06Z (from: RFC 3339)
pub record IsMoment (nanosecond : ℤ) (text : List ℕ) : Type 0 where
  pub shown : DateTime
  pub stands : civil_nanos shown ≡ nanosecond
  pub spelled : text ≡ date_text shown.date ++ (codes "T" ++ (time_text None shown.time ++ codes "Z"))

-- a second that has a date
pub record IsUtc (second : ℕ) (text : List ℕ) : Type 0 where
  pub early : second ≤ last_second
  pub moment : IsMoment (nanos_of_seconds (pos second)) text

-- a second that has none: its number behind an @, as the command date takes it
pub record IsUndated (second : ℕ) (text : List ℕ) : Type 0 where
  pub late : last_second < second
  pub spelled : text ≡ codes "@" ++ decimal second

-- when a line is said, in UTC; a hyphen where there is no clock to tell it
abbrev pub IsDated : Option ℕ → List ℕ → Type 0
IsDated None text = text ≡ codes "-"
IsDated (Some second) text = IsUtc second text ⊎ IsUndated second text
