-- The bytes of pages.
use Rattle.std.proofs.Common.{◌≡◌, ℕ, false, if◌then◌else◌, List, [], ◌∷◌, ◌++◌, refl, ap, sym, ◌∙◌, codes}
use Rattle.std.proofs.lemmas.List.{append_assoc, append-nil}
use Rattle.bw_lang.specs.declared.items.Attr.{Attr}
use Rattle.bw_lang.specs.Document.Forest.{Forest, none, text, element}
use Rattle.bw_lang.specs.Document.Documents.{append, close}
use Rattle.bw_lang.specs.Template.Markup.{is_void, escaped}
use Rattle.bw_lang.specs.Document.Print.{print, printed_start, printed_end}
use Rattle.bw_lang.proofs.PrintLaws.{closed_alike}
use Rattle.bw_lang.specs.declared.items.AttrValue.TheVariants.{Fixed}
use Rattle.bw_lang.specs.Document.Wrappers.{button, attr}
use Rattle.bw_page.specs.Pages.{show_page, exit_page}
use Rattle.bw_page.proofs.Printed.{print-append}

-- an element with an end tag, and what follows it
element_bytes : (tag : List ℕ) (attrs : List Attr) (i r : Forest) → is_void tag ≡ false
    → print (element tag attrs i r) ≡ (printed_start tag attrs ++ codes ">") ++ (print i ++ (printed_end tag ++ print r))
element_bytes tag attrs i r e =
    let s = printed_start tag attrs in
    ap (λ b. (s ++ (if b then codes "/>" else codes ">" ++ (print i ++ printed_end tag))) ++ print r) e
    ∙ append_assoc s (codes ">" ++ (print i ++ printed_end tag)) (print r)
    ∙ ap (λ x. s ++ (codes ">" ++ x)) (append_assoc (print i) (printed_end tag) (print r))
    ∙ sym (append_assoc s (codes ">") (print i ++ (printed_end tag ++ print r)))

text_bytes : (s : List ℕ) → print (text s none) ≡ escaped s
text_bytes s = append-nil (escaped s)

-- a title, and what is behind its head
title_bytes : (title : List ℕ) → print (element (codes "title") [] (text title none) none) ≡ codes "<title>" ++ (escaped title ++ codes "</title>")
title_bytes title = element_bytes (codes "title") [] (text title none) none refl ∙ ap (λ x. codes "<title>" ++ (x ++ codes "</title>")) (text_bytes title)

-- a page with these items in its body
page_bytes : (title : List ℕ) (body : Forest) (b : List ℕ) → print body ≡ b
    → print (element (codes "html") [] (element (codes "head") [] (element (codes "title") [] (text title none) none)
    (element (codes "body") [] body none)) none)
    ≡ codes "<html><head><title>" ++ (escaped title ++ (codes "</title></head><body>" ++ (b ++ codes "</body></html>")))
page_bytes title body b e =
    element_bytes (codes "html") [] (element (codes "head") [] (element (codes "title") [] (text title none) none)
    (element (codes "body") [] body none)) none refl
    ∙ ap (λ x. codes "<html>" ++ (x ++ codes "</html>")) (
    element_bytes (codes "head") [] (element (codes "title") [] (text title none) none) (element (codes "body") [] body none) refl
    ∙ ap (λ x. codes "<head>" ++ (x ++ (codes "</head>" ++ print (element (codes "body") [] body none)))) (title_bytes title)
    ∙ ap (λ x. codes "<head>" ++ ((codes "<title>" ++ (escaped title ++ codes "</title>")) ++ (codes "</head>" ++ x)))
    (element_bytes (codes "body") [] body none refl ∙ ap (λ x. codes "<body>" ++ (x ++ codes "</body>")) e))
    ∙ ap (λ x. codes "<html><head><title>" ++ x) (
    ap (λ x. x ++ codes "</html>") (append_assoc (escaped title) (codes "</title>") (codes "</head><body>" ++ (b ++ codes "</body>")))
    ∙ append_assoc (escaped title) (codes "</title></head><body>" ++ (b ++ codes "</body>")) (codes "</html>")
    ∙ ap (λ x. escaped title ++ (codes "</title></head><body>" ++ x)) (append_assoc b (codes "</body>") (codes "</html>")))

closed_bytes : (d e : Forest) → print (append (close d) e) ≡ print d ++ print e
closed_bytes d e = print-append (close d) e ∙ ap (λ x. x ++ print e) (closed_alike d)

pub exit_bytes : (title : List ℕ) (d : Forest)
    → print (exit_page title d) ≡ codes "<html><head><title>" ++ (escaped title ++ (codes "</title></head><body>" ++ (print d ++ codes "</body></html>")))
exit_bytes title d = page_bytes title (append (close d) none) (print d) (closed_bytes d none ∙ append-nil (print d))

form_bytes : (target : List ℕ) (d : Forest)
    → print (element (codes "form") (attr (codes "action") (Fixed target) ∷ attr (codes "method") (Fixed (codes "post")) ∷ []) (append (close d) button) none)
    ≡ codes "<form action=\"" ++ (escaped target ++ (codes "\" method=\"post\">"
    ++ (print d ++ codes "<p><input type=\"submit\" value=\"Continue\"/></p></form>")))
form_bytes target d =
    let attrs = attr (codes "action") (Fixed target) ∷ attr (codes "method") (Fixed (codes "post")) ∷ [] in
    element_bytes (codes "form") attrs (append (close d) button) none refl
    ∙ ap (λ x. (printed_start (codes "form") attrs ++ codes ">") ++ x)
    (ap (λ x. x ++ codes "</form>") (closed_bytes d button) ∙ append_assoc (print d) (print button) (codes "</form>"))
    ∙ ap (λ x. codes "<form action=\"" ++ x) (
    let behind = print d ++ codes "<p><input type=\"submit\" value=\"Continue\"/></p></form>" in
    ap (λ x. (x ++ codes ">") ++ behind) (append_assoc (escaped target) (codes "\"") (codes " method=\"post\""))
    ∙ ap (λ x. x ++ behind) (append_assoc (escaped target) (codes "\" method=\"post\"") (codes ">"))
    ∙ append_assoc (escaped target) (codes "\" method=\"post\">") behind)

pub show_bytes : (title target : List ℕ) (d : Forest) → print (show_page title target d)
    ≡ codes "<html><head><title>" ++ (escaped title ++
    (codes "</title></head><body><form action=\"" ++ (escaped target ++ (codes "\" method=\"post\">"
    ++ (print d ++ codes "<p><input type=\"submit\" value=\"Continue\"/></p></form></body></html>")))))
show_bytes title target d =
    let last = codes "<p><input type=\"submit\" value=\"Continue\"/></p></form>" in
    page_bytes title (element (codes "form") (attr (codes "action") (Fixed target) ∷ attr (codes "method") (Fixed (codes "post")) ∷ [])
    (append (close d) button) none) (codes "<form action=\"" ++ (escaped target ++ (codes "\" method=\"post\">" ++ (print d ++ last))))
    (form_bytes target d)
    ∙ ap (λ x. codes "<html><head><title>" ++ (escaped title ++ (codes "</title></head><body><form action=\"" ++ x))) (
    append_assoc (escaped target) (codes "\" method=\"post\">" ++ (print d ++ last)) (codes "</body></html>")
    ∙ ap (λ x. escaped target ++ (codes "\" method=\"post\">" ++ x)) (append_assoc (print d) last (codes "</body></html>")))

-- what is put behind some bytes, and more behind it
pub and_then : (o a r o1 : List ℕ) → o1 ≡ o ++ a → o ++ (a ++ r) ≡ o1 ++ r
and_then o a r o1 e = sym (append_assoc o a r) ∙ ap (λ x. x ++ r) (sym e)
