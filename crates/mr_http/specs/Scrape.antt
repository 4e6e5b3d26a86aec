-- The service of one scraper.
use Rattle.std.specs.Prelude.{◌≡◌, ℕ, ◌⊎◌, ◌+◌, List, ◌++◌, length, nat_le, if◌then◌else◌, codes, Result, Ok, Err}
use Rattle.mr_text.specs.Sink.{SinkView, IsOneWrite}
use Rattle.mr_text.specs.declared.error.WriteFault as failing
use Rattle.mr_text.specs.Source.{SourceView}
use Rattle.mr_http.specs.Reading.{HeadIs, MAX_HEAD}
use Rattle.mr_http.specs.Response.{response_head, refusal_text}
use Rattle.mr_http.specs.declared.heard.Heard.{Heard}
use Rattle.mr_http.specs.declared.heard.Heard.TheVariants.{Get, Head, OtherPath, OtherMethod, Unfinished, NoHead, TooManyFields}
use Rattle.mr_http.specs.declared.scrape.ScrapeFault.{ScrapeFault}
use Rattle.mr_http.specs.declared.scrape.ScrapeFault.TheVariants.{ReadFault, WriteFault}
use Rattle.mr_http.specs.declared.response.Status.{Status}
use Rattle.mr_http.specs.declared.response.Status.TheVariants as status

-- how a request ends of which this was heard in so many bytes: one that may go on is too long, or has ended too early
abbrev pub status_of : Heard → ℕ → Status
status_of Get bytes = status.Ok
status_of Head bytes = status.Ok
status_of OtherPath bytes = status.NotFound
status_of OtherMethod bytes = status.MethodNotAllowed
status_of NoHead bytes = status.BadRequest
status_of TooManyFields bytes = status.HeadTooLarge
status_of Unfinished bytes = if nat_le MAX_HEAD bytes then status.HeadTooLarge else status.BadRequest

-- the answer where this was heard in so many bytes: what may be told, or its head alone, or a refusal
abbrev pub IsAnswer : (List ℕ → Type 0) → Heard → ℕ → List ℕ → Type 0
IsAnswer told Get bytes text = (body : List ℕ) × told body × (text ≡ response_head status.Ok (length body) ++ body)
IsAnswer told Head bytes text = (body : List ℕ) × told body × (text ≡ response_head status.Ok (length body))
IsAnswer told heard bytes text = text ≡ refusal_text (status_of heard bytes)

-- what is answered where there is no memory for more
abbrev pub unavailable_text : List ℕ
unavailable_text = codes "HTTP/1.1 503 Service Unavailable\r\nContent-Length: 0\r\nConnection: close\r\n\r\n"

-- the answer to what was read: memory may have been refused for more
abbrev pub IsAnswered : (List ℕ → Type 0) → SourceView → SourceView → List ℕ → Type 0
IsAnswered told old new text =
    ((bytes : List ℕ) × (heard : Heard) × HeadIs bytes heard old new × IsAnswer told heard (length bytes) text)
    ⊎ ((text ≡ unavailable_text) × (new.failures ≡ old.failures))

-- the answer is handed over in one call, unless a read fails, before which nothing is
abbrev pub Scrapes : (List ℕ → Type 0) → SourceView → SinkView → Result (Unit {0}) ScrapeFault → SourceView → SinkView → Type 0
Scrapes told input output (Ok _) input' output' =
    (text : List ℕ) × IsAnswered told input input' text × IsOneWrite text output (Ok tt) output'
Scrapes told input output (Err WriteFault) input' output' =
    (text : List ℕ) × (fault : failing.WriteFault) × IsAnswered told input input' text × IsOneWrite text output (Err fault) output'
Scrapes told input output (Err ReadFault) input' output' = (output' ≡ output) × (input'.failures ≡ input.failures + 1)
