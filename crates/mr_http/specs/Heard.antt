-- What is heard of the head of a request.
use Rattle.std.specs.Prelude.{◌≡◌, ℕ, List, not, if◌then◌else◌, codes}
use Rattle.std.specs.Str.{bytes_eq}
use Rattle.httparse.specs.Grammar.{RequestHead, ReadsRequest, HasNoRequest, MayBecomeRequest, NeverHasRequest}
use Rattle.httparse.specs.Spans.{RequestExceeds}
use Rattle.mr_http.specs.declared.heard.Heard.{Heard}
use Rattle.mr_http.specs.declared.heard.Heard.TheVariants.{Get, Head, OtherPath, OtherMethod, Unfinished, NoHead, TooManyFields}

-- how many fields a head may have
abbrev pub MAX_FIELDS : ℕ
MAX_FIELDS = 64

-- what a head asks for, by its method and its target: another path is found before another method
-- (from: RFC 9112, as `httparse` reads it; the bound of 64 fields own)
abbrev pub heard_of : List ℕ → List ℕ → Heard
heard_of method target =
    if not (bytes_eq target (codes "/metrics")) then OtherPath else
    if bytes_eq method (codes "GET") then Get else
    if bytes_eq method (codes "HEAD") then Head else
    OtherMethod

-- the bytes begin with a head that asks for this
abbrev pub IsWhole : List ℕ → Heard → Type 0
IsWhole bytes heard =
    (head : RequestHead) × (rest : List ℕ) × ReadsRequest bytes head rest × (heard ≡ heard_of head.method head.target)

-- what is heard of the bytes that came so far
abbrev pub Hears : List ℕ → Heard → Type 0
Hears bytes Unfinished = HasNoRequest bytes × MayBecomeRequest bytes
Hears bytes NoHead = NeverHasRequest bytes
Hears bytes TooManyFields = RequestExceeds MAX_FIELDS bytes
Hears bytes heard = IsWhole bytes heard
