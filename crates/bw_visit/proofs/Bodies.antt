-- The bodies of replies, and which of them are pages.
use Rattle.std.proofs.Common.{◌≡◌, ◌<◌, ◌^◌, ◌⊎◌, inl, inr, ℕ, Bool, true, false, List, [], ◌∷◌, ◌++◌, length, refl, sym, ap, ◌∙◌, subst, arith}
use Rattle.std.proofs.Common.{decimal, codes, append_assoc}
use Rattle.std.specs.Prelude.{get_or, not, cond, take, drop, ◌&&◌, ◌==◌}
use Rattle.std.specs.List.{list_all}
use Rattle.std.specs.Str.{bytes_eq}
use Rattle.std.proofs.lemmas.Bool.{and_parts}
use Rattle.std.proofs.lemmas.List.{length-append}
use Rattle.bw_http.specs.declared.replies.Allow.TheVariants as methods
use Rattle.bw_http.specs.declared.replies.Reply.{Reply}
use Rattle.bw_http.specs.declared.replies.Reply.TheVariants as replies
use Rattle.bw_http.specs.Replies.{head, message, html_type, text_type, plain, shown_name, fault_words, bytes_of}
use Rattle.bw_lang.specs.declared.turn.TurnFault.{TurnFault}
use Rattle.bw_lang.specs.declared.turn.TurnFault.TheVariants as faults
use Rattle.bw_lang.specs.Document.Forest.{Forest}
use Rattle.bw_lang.specs.Text.Bytes.{is_blank}
use Rattle.bw_lang.specs.Template.Pieces.{passes}
use Rattle.bw_read.specs.Pages.{IsPage, IsDoctype}
use Rattle.bw_read.proofs.Elements.{root_tagged}
use Rattle.bw_user.specs.Messages.{body_in}
use Rattle.bw_user.proofs.Found.{behind}
use Rattle.bw_user.proofs.Plain.{Plain, decimal_plain}
use Rattle.bw_visit.specs.Visits.{is_amiss}

-- ---- a page begins with a blank or a tag

begins_so : (c : ℕ) (more front doctype inside back tail : List ℕ) → passes is_blank front ≡ true → IsDoctype doctype → inside ≡ 60 ∷ tail
    → c ∷ more ≡ front ++ (doctype ++ (inside ++ back)) → (is_blank c ≡ true) ⊎ (c ≡ 60)
begins_so c more (b ∷ front) doctype inside back tail h k i e =
    let same : c ≡ b = ap (λ l. get_or l 0 0) e in inl (ap is_blank same ∙ (and_parts _ _ h).0)
begins_so c more [] doctype inside back tail h (inl none) i e =
    inr (ap (λ l. get_or l 0 0) (e ∙ (λ j. none j ++ (i j ++ back))))
begins_so c more [] doctype inside back tail h (inr d) i e =
    inr (ap (λ l. get_or l 0 0) (e ∙ ap (λ x. x ++ (inside ++ back)) d.2))

page_begins : (c : ℕ) (more : List ℕ) (d : Forest) → IsPage (c ∷ more) d → (is_blank c ≡ true) ⊎ (c ≡ 60)
page_begins c more d p =
    let tagged = root_tagged 512 p.inside d p.reads p.root in
    begins_so c more p.front p.doctype p.inside p.back (104 ∷ tagged.behind) p.front_blank p.doctype_or_none tagged.begins p.parts

-- so a line of words is none
no_words : (c : ℕ) (more : List ℕ) (d : Forest) → is_blank c ≡ false → (c ≡ 60 → ⊥) → IsPage (c ∷ more) d → ⊥
no_words c more d h k p = by_first (page_begins c more d p)
  where
    by_first : (is_blank c ≡ true) ⊎ (c ≡ 60) → ⊥
    by_first (inl e) = let f : true ≡ false = sym e ∙ h in absurd cc
    by_first (inr e) = k e

-- ---- bodies

abbrev NoReturn : List ℕ → Type 0
NoReturn bytes = list_all (λ b. not (b == 13)) bytes ≡ true

no_return : (b : Bool) → not b ≡ true → b ≡ false
no_return true h = absurd cc
no_return false h = refl

-- bytes that end no line are passed
past : (status bytes : List ℕ) → NoReturn status → body_in (status ++ bytes) ≡ body_in bytes
past [] bytes h = refl
past (a ∷ status) bytes h =
    let p = and_parts _ _ h in
    ap (λ (t : Bool). cond (t && bytes_eq (take 3 (status ++ bytes)) (codes "\n\r\n")) (drop 3 (status ++ bytes)) (body_in (status ++ bytes)))
    (no_return (a == 13) p.0)
    ∙ past status bytes p.1

abbrev rest : List ℕ
rest = codes "\r\nCache-Control: no-store\r\nConnection: close\r\n\r\n"

small : (status type more body : List ℕ) → length (message status type more body) < 2 ^ 64 → Plain (decimal (length body))
small status type more body h =
    decimal_plain (length body) (omega (arith, h, length-append (head status type more (length body)) body))

-- the body of a line of plain text is the line
line_found : (status words : List ℕ) → NoReturn status → length (plain status words) < 2 ^ 64 → body_in (plain status words) ≡ words ++ codes "\n"
line_found status words n h =
    let line = words ++ codes "\n" in
    let digits = decimal (length line) in
    let back = codes "\r\nContent-Type: " ++ (text_type ++ (codes "\r\nContent-Length: " ++ (digits ++ rest))) in
    ap body_in (append_assoc status back line) ∙ past status (back ++ line) n
    ∙ behind digits rest line (small status text_type [] line h)

-- the body of a page is the page
pub page_found : (names : List (List ℕ)) (page : List ℕ) → length (bytes_of names (replies.Page page)) < 2 ^ 64
    → body_in (bytes_of names (replies.Page page)) ≡ page
page_found names page h = behind (decimal (length page)) rest page (small (codes "HTTP/1.1 200 OK") html_type [] page h)

pub last_found : (names : List (List ℕ)) (page : List ℕ) → length (bytes_of names (replies.Final page)) < 2 ^ 64
    → body_in (bytes_of names (replies.Final page)) ≡ page
last_found names page h = behind (decimal (length page)) rest page (small (codes "HTTP/1.1 200 OK") html_type [] page h)

-- ---- the body of each other reply begins with a letter, and is no page

-- bytes that begin with neither a blank nor a tag
pub record Worded (bytes : List ℕ) : Type 0 where
  pub first : ℕ
  pub tail : List ℕ
  pub is : bytes ≡ first ∷ tail
  pub blank : is_blank first ≡ false
  pub tag : (first == 60) ≡ false

worded : (first : ℕ) (tail : List ℕ) → is_blank first ≡ false → (first == 60) ≡ false → Worded (first ∷ tail)
worded first tail b t = record { first = first; tail = tail; is = refl; blank = b; tag = t }

not_tag : (c : ℕ) → (c == 60) ≡ false → c ≡ 60 → ⊥
not_tag c f e = let g : true ≡ false = ap (λ x. x == 60) (sym e) ∙ f in absurd cc

abbrev IsNone : List ℕ → Type 0
IsNone bytes = (d : Forest) → IsPage bytes d → ⊥

none_by : (bytes body : List ℕ) → body_in bytes ≡ body → Worded body → IsNone (body_in bytes)
none_by bytes body e w d p = no_words w.first w.tail d w.blank (not_tag w.first w.tag) (subst (λ b. IsPage b d) (e ∙ w.is) p)

no_line : (status words : List ℕ) → NoReturn status → Worded words → length (plain status words) < 2 ^ 64 → IsNone (body_in (plain status words))
no_line status words n w h =
    none_by (plain status words) (words ++ codes "\n") (line_found status words n h)
    (record { first = w.first; tail = w.tail ++ codes "\n"; is = ap (λ l. l ++ codes "\n") w.is; blank = w.blank; tag = w.tag })

fault_worded : (f : TurnFault) → Worded (fault_words f)
fault_worded faults.Spent = worded 115 (codes "pent") refl refl
fault_worded faults.DivideByZero = worded 100 (codes "ivide by zero") refl refl
fault_worded faults.Overflow = worded 111 (codes "verflow") refl refl
fault_worded (faults.StringTooLong n) = worded 115 (codes "tring too long " ++ decimal n) refl refl
fault_worded (faults.Heavy n) = worded 104 (codes "eavy " ++ decimal n) refl refl
fault_worded (faults.Deep n) = worded 100 (codes "eep " ++ decimal n) refl refl
fault_worded (faults.Nested n) = worded 110 (codes "ested " ++ decimal n) refl refl
fault_worded (faults.PageTooLong n) = worded 112 (codes "age too long " ++ decimal n) refl refl
fault_worded (faults.SessionHeavy n) = worded 115 (codes "ession heavy " ++ decimal n) refl refl
fault_worded (faults.SharedHeavy n) = worded 115 (codes "hared heavy " ++ decimal n) refl refl
fault_worded faults.Memory = worded 111 (codes "ut of memory") refl refl

abbrev pub HasNoPage : Reply → Type 0
HasNoPage (replies.Page page) = ⊥
HasNoPage (replies.Final page) = ⊥
HasNoPage reply = Unit {0}

pub no_page : (names : List (List ℕ)) (r : Reply) → is_amiss r ≡ false → HasNoPage r → length (bytes_of names r) < 2 ^ 64 → IsNone (body_in (bytes_of names r))
no_page names (replies.Index list) o i h = absurd cc
no_page names (replies.Lacking field) o i h = absurd cc
no_page names (replies.Repeated field) o i h = absurd cc
no_page names (replies.Page page) o i h = absurd i
no_page names (replies.Final page) o i h = absurd i
no_page names replies.Bad o i h = no_line (codes "HTTP/1.1 400 Bad Request") (codes "bad request") refl (worded 98 (codes "ad request") refl refl) h
no_page names replies.NoSuch o i h = no_line (codes "HTTP/1.1 404 Not Found") (codes "no such page") refl (worded 110 (codes "o such page") refl refl) h
no_page names (replies.Stale turn) o i h =
    no_line (codes "HTTP/1.1 409 Conflict") (codes "current turn " ++ decimal turn) refl (worded 99 (codes "urrent turn " ++ decimal turn) refl refl) h
no_page names replies.LengthRequired o i h =
    no_line (codes "HTTP/1.1 411 Length Required") (codes "length required") refl (worded 108 (codes "ength required") refl refl) h
no_page names replies.BodyTooLong o i h =
    no_line (codes "HTTP/1.1 413 Content Too Large") (codes "body too large") refl (worded 98 (codes "ody too large") refl refl) h
no_page names replies.Media o i h =
    no_line (codes "HTTP/1.1 415 Unsupported Media Type") (codes "form data wanted") refl (worded 102 (codes "orm data wanted") refl refl) h
no_page names (replies.FieldTooLong field) o i h =
    no_line (codes "HTTP/1.1 422 Unprocessable Content") (codes "too long " ++ shown_name names field) refl
    (worded 116 (codes "oo long " ++ shown_name names field) refl refl) h
no_page names (replies.Format field) o i h =
    no_line (codes "HTTP/1.1 422 Unprocessable Content") (codes "format " ++ shown_name names field) refl
    (worded 102 (codes "ormat " ++ shown_name names field) refl refl) h
no_page names replies.HeadTooLong o i h =
    no_line (codes "HTTP/1.1 431 Request Header Fields Too Large") (codes "head too large") refl (worded 104 (codes "ead too large") refl refl) h
no_page names replies.NoNumbers o i h =
    no_line (codes "HTTP/1.1 503 Service Unavailable") (codes "no numbers") refl (worded 110 (codes "o numbers") refl refl) h
no_page names replies.NoTurns o i h =
    no_line (codes "HTTP/1.1 503 Service Unavailable") (codes "no turns") refl (worded 110 (codes "o turns") refl refl) h
no_page names replies.Memory o i h =
    no_line (codes "HTTP/1.1 503 Service Unavailable") (codes "out of memory") refl (worded 111 (codes "ut of memory") refl refl) h
no_page names (replies.Failed fault) o i h =
    no_line (codes "HTTP/1.1 500 Internal Server Error") (fault_words fault) refl (fault_worded fault) h
no_page names (replies.Method methods.Get) o i h =
    none_by (bytes_of names (replies.Method methods.Get)) (codes "method not allowed\n")
    (behind (decimal 19) (codes "\r\nAllow: GET\r\nCache-Control: no-store\r\nConnection: close\r\n\r\n") (codes "method not allowed\n")
    (small (codes "HTTP/1.1 405 Method Not Allowed") text_type (codes "Allow: GET\r\n") (codes "method not allowed\n") h))
    (worded 109 (codes "ethod not allowed\n") refl refl)
no_page names (replies.Method methods.GetPost) o i h =
    none_by (bytes_of names (replies.Method methods.GetPost)) (codes "method not allowed\n")
    (behind (decimal 19) (codes "\r\nAllow: GET, POST\r\nCache-Control: no-store\r\nConnection: close\r\n\r\n") (codes "method not allowed\n")
    (small (codes "HTTP/1.1 405 Method Not Allowed") text_type (codes "Allow: GET, POST\r\n") (codes "method not allowed\n") h))
    (worded 109 (codes "ethod not allowed\n") refl refl)
