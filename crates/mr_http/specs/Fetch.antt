-- What is asked of a service, and what is given of its answer.
use Rattle.std.specs.Prelude.{◌≡◌, ℕ, ◌⊎◌, List, ◌++◌, codes, Ok, Err}
use Rattle.mr_text.specs.Sink.{SinkView, IsOneWrite}
use Rattle.mr_text.specs.declared.error.WriteFault as failing
use Rattle.mr_text.specs.Source.{SourceView}
use Rattle.mr_http.specs.Pieces.{IsRead, IsNotRead}
use Rattle.mr_http.specs.Received.{IsBody, HasNoBody}
use Rattle.mr_http.specs.declared.error.FetchFault.{FetchFault}
use Rattle.mr_http.specs.declared.error.FetchFault.TheVariants.{WriteFault, NoResponse, OutOfMemory}
use Rattle.mr_http.specs.declared.pieces.Until.{Until}
use Rattle.mr_http.specs.declared.pieces.Until.TheVariants.{EndOfInput}

-- the request for the metrics of this host (from: RFC 9112)
abbrev pub metrics_request : List ℕ → List ℕ
metrics_request host = codes "GET /metrics HTTP/1.1\r\nHost: " ++ (host ++ codes "\r\nConnection: close\r\n\r\n")

-- the request for a memcached's statistics (from: protocol.txt, "Statistics")
abbrev pub stats_request : List ℕ
stats_request = codes "stats\r\n"

-- the request was handed over in one call
abbrev pub IsAsked : List ℕ → SinkView → SinkView → Type 0
IsAsked request output output' = IsOneWrite request output (Ok tt) output'

-- nothing is read after a write that failed
pub record FailsToAsk (request : List ℕ) (input : SourceView) (output : SinkView) (input' : SourceView) (output' : SinkView) : Type 0 where
  pub fault : failing.WriteFault
  pub failed : IsOneWrite request output (Err fault) output'
  pub unread : input' ≡ input

-- there was no memory: for the request, before anything was touched, or else for what came
abbrev pub LacksMemory : List ℕ → SourceView → SinkView → SourceView → SinkView → Type 0
LacksMemory request input output input' output' =
    ((input' ≡ input) × (output' ≡ output)) ⊎ (IsAsked request output output' × (input'.failures ≡ input.failures))

-- all that was read is a response with this body
abbrev pub IsFetched : List ℕ → SourceView → SourceView → Type 0
IsFetched body input input' = (response : List ℕ) × IsRead EndOfInput response input input' × IsBody response body

-- all that was read is no response with a body
abbrev pub IsNoResponse : SourceView → SourceView → Type 0
IsNoResponse input input' = (response : List ℕ) × IsRead EndOfInput response input input' × HasNoBody response

-- why an answer to a request isn't read
abbrev pub IsNotAnswered : List ℕ → Until → FetchFault → SourceView → SinkView → SourceView → SinkView → Type 0
IsNotAnswered request until WriteFault input output input' output' = FailsToAsk request input output input' output'
IsNotAnswered request until OutOfMemory input output input' output' = LacksMemory request input output input' output'
IsNotAnswered request until fault input output input' output' = IsAsked request output output' × IsNotRead until fault input input'

-- why metrics aren't fetched
abbrev pub IsNotFetched : List ℕ → FetchFault → SourceView → SinkView → SourceView → SinkView → Type 0
IsNotFetched request NoResponse input output input' output' = IsAsked request output output' × IsNoResponse input input'
IsNotFetched request fault input output input' output' = IsNotAnswered request EndOfInput fault input output input' output'
