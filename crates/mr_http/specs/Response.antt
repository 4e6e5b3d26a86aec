-- What a scraper is answered.
use Rattle.std.specs.Prelude.{ℕ, List, [], ◌++◌, length, codes, decimal}
use Rattle.mr_http.specs.declared.response.Status.{Status}
use Rattle.mr_http.specs.declared.response.Status.TheVariants.{Ok, BadRequest, NotFound, MethodNotAllowed, HeadTooLarge}

-- the number and the words of a status
abbrev pub reason : Status → List ℕ
reason Ok = codes "200 OK"
reason BadRequest = codes "400 Bad Request"
reason NotFound = codes "404 Not Found"
reason MethodNotAllowed = codes "405 Method Not Allowed"
reason HeadTooLarge = codes "431 Request Header Fields Too Large"

-- the media type of what follows the head
abbrev pub media_type : Status → List ℕ
media_type Ok = codes "text/plain; version=0.0.4; charset=utf-8"
media_type status = codes "text/plain; charset=utf-8"

-- the first line
abbrev pub status_line : Status → List ℕ
status_line status = codes "HTTP/1.1 " ++ (reason status ++ codes "\r\n")

-- a field
abbrev pub field : List ℕ → List ℕ → List ℕ
field name value = name ++ (codes ": " ++ (value ++ codes "\r\n"))

-- what follows the head
abbrev pub type_field : Status → List ℕ
type_field status = field (codes "Content-Type") (media_type status)

-- how many bytes follow it
abbrev pub length_field : ℕ → List ℕ
length_field bytes = field (codes "Content-Length") (decimal bytes)

-- what can be done, where something else was asked for
abbrev pub allow_field : Status → List ℕ
allow_field MethodNotAllowed = field (codes "Allow") (codes "GET, HEAD")
allow_field status = []

-- the connection is closed after the response
abbrev pub end_of_head : List ℕ
end_of_head = codes "Connection: close\r\n\r\n"

-- the head of a response whose body has so many bytes (from: RFC 9112)
abbrev pub response_head : Status → ℕ → List ℕ
response_head status bytes = status_line status ++ (type_field status ++ (length_field bytes ++ (allow_field status ++ end_of_head)))

-- a refusal: the number and the words of its status, in a line
abbrev pub refusal_body : Status → List ℕ
refusal_body status = reason status ++ codes "\n"

-- a refusal: the head of its status, and that status as its body
abbrev pub refusal_text : Status → List ℕ
refusal_text status = response_head status (length (refusal_body status)) ++ refusal_body status
