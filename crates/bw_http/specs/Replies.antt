-- The bytes of replies (RFC 9112, section 2.1).
use Rattle.std.specs.Prelude.{◌≡◌, ◌≢◌, ℕ, ◌<◌, ◌==◌, List, [], ◌∷◌, ◌++◌, codes, length, map, decimal, slice_get, if◌then◌else◌, unwrap_or, ⊤}
use Rattle.bw_lang.specs.declared.turn.TurnFault.{TurnFault}
use Rattle.bw_lang.specs.declared.turn.TurnFault.TheVariants as faults
use Rattle.bw_http.specs.declared.replies.Allow.{Allow}
use Rattle.bw_http.specs.declared.replies.Allow.TheVariants as methods
use Rattle.bw_http.specs.declared.replies.Reply.{Reply}
use Rattle.bw_http.specs.declared.replies.Reply.TheVariants as replies

-- a head with this status line, type, further field lines and length
abbrev pub head : List ℕ → List ℕ → List ℕ → ℕ → List ℕ
head status type more n =
    status ++ (codes "\r\nContent-Type: " ++ (type ++ (codes "\r\nContent-Length: " ++ (decimal n
    ++ (codes "\r\n" ++ (more ++ codes "Cache-Control: no-store\r\nConnection: close\r\n\r\n"))))))

-- a head for this body, and the body
abbrev pub message : List ℕ → List ℕ → List ℕ → List ℕ → List ℕ
message status type more body = head status type more (length body) ++ body

-- the type of a page, and of all else
abbrev pub html_type : List ℕ
html_type = codes "text/html; charset=utf-8"

abbrev pub text_type : List ℕ
text_type = codes "text/plain; charset=utf-8"

-- a line of plain text
abbrev pub plain : List ℕ → List ℕ → List ℕ
plain status words = message status text_type [] (words ++ codes "\n")

-- the methods that a path serves (RFC 9110, section 10.2.1)
abbrev pub allow_line : Allow → List ℕ
allow_line methods.Get = codes "Allow: GET\r\n"
allow_line methods.GetPost = codes "Allow: GET, POST\r\n"

-- a byte of a field's name as it prints: the ends of lines as spaces
abbrev pub shown : ℕ → ℕ
shown b = if b == 10 then 32 else (if b == 13 then 32 else b)

-- the bytes print as this line as it stands, a space, and what follows
abbrev pub IsLineCut : List ℕ → List ℕ → List ℕ → Type 0
IsLineCut bytes line more = (map shown bytes ≡ line ++ 32 ∷ map shown more) × (length more < length bytes)

-- the name of a field as it prints
abbrev pub shown_name : List (List ℕ) → ℕ → List ℕ
shown_name names field = map shown (unwrap_or (slice_get names field) [])

-- what a fault prints
abbrev pub fault_words : TurnFault → List ℕ
fault_words faults.Spent = codes "spent"
fault_words faults.DivideByZero = codes "divide by zero"
fault_words faults.Overflow = codes "overflow"
fault_words (faults.StringTooLong n) = codes "string too long " ++ decimal n
fault_words (faults.Heavy n) = codes "heavy " ++ decimal n
fault_words (faults.Deep n) = codes "deep " ++ decimal n
fault_words (faults.Nested n) = codes "nested " ++ decimal n
fault_words (faults.PageTooLong n) = codes "page too long " ++ decimal n
fault_words (faults.SessionHeavy n) = codes "session heavy " ++ decimal n
fault_words (faults.SharedHeavy n) = codes "shared heavy " ++ decimal n
fault_words faults.Memory = codes "out of memory"

-- what is written for a reply of a service whose fields have these names
abbrev pub bytes_of : List (List ℕ) → Reply → List ℕ
bytes_of names (replies.Index list) = message (codes "HTTP/1.1 200 OK") text_type [] list
bytes_of names (replies.Page page) = message (codes "HTTP/1.1 200 OK") html_type [] page
bytes_of names (replies.Final page) = message (codes "HTTP/1.1 200 OK") html_type [] page
bytes_of names replies.Bad = plain (codes "HTTP/1.1 400 Bad Request") (codes "bad request")
bytes_of names replies.NoSuch = plain (codes "HTTP/1.1 404 Not Found") (codes "no such page")
bytes_of names (replies.Method allow) = message (codes "HTTP/1.1 405 Method Not Allowed") text_type (allow_line allow) (codes "method not allowed\n")
bytes_of names (replies.Stale turn) = plain (codes "HTTP/1.1 409 Conflict") (codes "current turn " ++ decimal turn)
bytes_of names replies.LengthRequired = plain (codes "HTTP/1.1 411 Length Required") (codes "length required")
bytes_of names replies.BodyTooLong = plain (codes "HTTP/1.1 413 Content Too Large") (codes "body too large")
bytes_of names replies.Media = plain (codes "HTTP/1.1 415 Unsupported Media Type") (codes "form data wanted")
bytes_of names (replies.Lacking field) = plain (codes "HTTP/1.1 422 Unprocessable Content") (codes "lacking " ++ shown_name names field)
bytes_of names (replies.Repeated field) = plain (codes "HTTP/1.1 422 Unprocessable Content") (codes "repeated " ++ shown_name names field)
bytes_of names (replies.FieldTooLong field) = plain (codes "HTTP/1.1 422 Unprocessable Content") (codes "too long " ++ shown_name names field)
bytes_of names (replies.Format field) = plain (codes "HTTP/1.1 422 Unprocessable Content") (codes "format " ++ shown_name names field)
bytes_of names replies.HeadTooLong = plain (codes "HTTP/1.1 431 Request Header Fields Too Large") (codes "head too large")
bytes_of names (replies.Failed fault) = plain (codes "HTTP/1.1 500 Internal Server Error") (fault_words fault)
bytes_of names replies.NoNumbers = plain (codes "HTTP/1.1 503 Service Unavailable") (codes "no numbers")
bytes_of names replies.NoTurns = plain (codes "HTTP/1.1 503 Service Unavailable") (codes "no turns")
bytes_of names replies.Memory = plain (codes "HTTP/1.1 503 Service Unavailable") (codes "out of memory")

-- the fields that it names are there, and it is no want of memory under the name of a fault
abbrev pub IsReply : List (List ℕ) → Reply → Type 0
IsReply names (replies.Lacking field) = field < length names
IsReply names (replies.Repeated field) = field < length names
IsReply names (replies.FieldTooLong field) = field < length names
IsReply names (replies.Format field) = field < length names
IsReply names (replies.Failed fault) = fault ≢ faults.Memory
IsReply names other = ⊤
