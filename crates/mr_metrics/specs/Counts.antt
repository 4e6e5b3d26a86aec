-- What a proxy counts, by what tells one count from another.
use Rattle.std.specs.Prelude.{ℕ, List, [], ◌∷◌, ◌++◌, codes}
use Rattle.mr_phases.specs.PhaseText.{phase_text}
use Rattle.mr_metrics.specs.Exposition.{family_head, labelled_sample, shown_pair, shown_number}
use Rattle.mr_metrics.specs.declared.counts.AnswerCount.{AnswerCount}
use Rattle.mr_metrics.specs.declared.counts.AnswerKind.{AnswerKind}
use Rattle.mr_metrics.specs.declared.counts.AnswerKind.TheVariants.{Hit, Miss, Stored, Deleted, NotFound, LegLost, OutOfMemory, ClockFault, OtherFault}
use Rattle.mr_metrics.specs.declared.counts.Command.{Command}
use Rattle.mr_metrics.specs.declared.counts.Command.TheVariants.{Get, Set, Delete}
use Rattle.mr_metrics.specs.declared.counts.RequestCount.{RequestCount}
use Rattle.mr_metrics.specs.declared.exposition.Kind.TheVariants.{Counter}
use Rattle.mr_metrics.specs.declared.number.Number.TheVariants.{Whole}

-- the word of a command
abbrev pub command_text : Command → List ℕ
command_text Get = codes "get"
command_text Set = codes "set"
command_text Delete = codes "delete"

-- the words of a kind of answer
abbrev pub answer_text : AnswerKind → List ℕ
answer_text Hit = codes "hit"
answer_text Miss = codes "miss"
answer_text Stored = codes "stored"
answer_text Deleted = codes "deleted"
answer_text NotFound = codes "not found"
answer_text LegLost = codes "leg lost"
answer_text OutOfMemory = codes "out of memory"
answer_text ClockFault = codes "clock fault"
answer_text OtherFault = codes "other fault"

-- how many requests of a command were issued in a phase
abbrev pub request_sample : List ℕ → RequestCount → List ℕ
request_sample name row =
    name ++ (codes "{" ++ (shown_pair (codes "command") (command_text row.command) ++ (codes "," ++
    (shown_pair (codes "phase") (phase_text row.phase) ++ (codes "} " ++ (shown_number (Whole row.count) ++ codes "\n"))))))

-- the samples of requests, row by row
abbrev pub request_samples : List ℕ → List RequestCount → List ℕ
request_samples name [] = []
request_samples name (row ∷ rows) = request_sample name row ++ request_samples name rows

-- how many requests were issued, by command and phase
abbrev pub requests_family : List RequestCount → List ℕ
requests_family rows =
    family_head (codes "migctl_proxy_requests_total") (codes "Requests that came to an answer, by command and by the phase of their reading.") Counter
    ++ request_samples (codes "migctl_proxy_requests_total") rows

-- the samples of answers, row by row
abbrev pub answer_samples : List ℕ → List AnswerCount → List ℕ
answer_samples name [] = []
answer_samples name (row ∷ rows) = labelled_sample name (codes "kind") (answer_text row.kind) (Whole row.count) ++ answer_samples name rows

-- what clients were answered, by kind
abbrev pub answers_family : List AnswerCount → List ℕ
answers_family rows =
    family_head (codes "migctl_proxy_answers_total")
    (codes "What clients were answered: keys of gets that were found or not, and answers to requests.") Counter
    ++ answer_samples (codes "migctl_proxy_answers_total") rows
