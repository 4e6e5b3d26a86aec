-- The limits of scripts and transcripts.
use Rattle.std.specs.Prelude.{ℕ}

-- the largest script or transcript, in bytes
abbrev pub most_bytes : ℕ
most_bytes = 16777216

-- the most events of a script
abbrev pub most_events : ℕ
most_events = 65536

-- the most items that are held at the beginning
abbrev pub most_held : ℕ
most_held = 65536

-- the most proxies
abbrev pub most_proxies : ℕ
most_proxies = 64
