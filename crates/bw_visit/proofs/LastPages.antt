-- A session's last page has no form: its document is made of templates, in which no element is one.
use Rattle.std.proofs.Common.{◌≡◌, ℕ, Bool, true, false, List, Some, None, refl, ap, ◌∙◌, subst}
use Rattle.std.specs.Prelude.{◌==◌, ◌||◌, ◌&&◌, codes, if◌then◌else◌}
use Rattle.std.specs.List.{All}
use Rattle.std.specs.Option.{option_or}
use Rattle.bw_agent.specs.Controls.{has}
use Rattle.bw_agent.specs.Forms.{form_in}
use Rattle.bw_lang.proofs.Small.{readable_is_woven}
use Rattle.bw_lang.specs.Document.Documents as doc
use Rattle.bw_lang.specs.Document.Documents.{closed_attrs}
use Rattle.bw_lang.specs.Document.Forest.{Forest, none, text, gap, element}
use Rattle.bw_lang.specs.Table.Names.{same}
use Rattle.bw_lang.specs.declared.measure.Measure.{Measure}
use Rattle.bw_lang.specs.declared.service.Template.{Template}
use Rattle.bw_made.specs.Made.{IsMadeOf, IsItemsOf, template, nothing, constant, plug, fill}
use Rattle.bw_page.specs.Pages.{exit_page}
use Rattle.bw_types.proofs.WellTyped.{typed}
use Rattle.bw_types.specs.TemplateFaults.{is_reserved}
use Rattle.bw_types.specs.Typing.{EachElement}
use Rattle.bw_types.specs.declared.typed.Typed.{Typed}
use Rattle.bw_visit.specs.Laws.{LastPagesHaveNoForm}

-- no element is a form
abbrev NoForm : Forest → Type 0
NoForm d = EachElement (λ tag attrs. same tag (codes "form") ≡ false) d

-- ---- what is made of such items

append_keeps : (a b : Forest) → NoForm a → NoForm b → NoForm (doc.append a b)
append_keeps none b h k = k
append_keeps (text s a) b h k = append_keeps a b h k
append_keeps (gap g a) b h k = append_keeps a b h k
append_keeps (element tag attrs inner a) b h k = (h.0, h.1, append_keeps a b h.2 k)

either : (t : Bool) (a b : Forest) → NoForm a → NoForm b → NoForm (if t then a else b)
either true a b h k = h
either false a b h k = k

plug_keeps : (g : ℕ) (a b : Forest) → NoForm a → NoForm b → NoForm (doc.plug g a b)
plug_keeps g a none h k = tt
plug_keeps g a (text s b) h k = plug_keeps g a b h k
plug_keeps g a (gap i b) h k =
    let rest = plug_keeps g a b h k in
    either (i == g) (doc.append a (doc.plug g a b)) (gap i (doc.plug g a b)) (append_keeps a (doc.plug g a b) h rest) rest
plug_keeps g a (element tag attrs inner b) h k = (k.0, plug_keeps g a inner h k.1, plug_keeps g a b h k.2)

fill_keeps : (g : ℕ) (s : List ℕ) (b : Forest) → NoForm b → NoForm (doc.plug_text g s b)
fill_keeps g s none k = tt
fill_keeps g s (text t b) k = fill_keeps g s b k
fill_keeps g s (gap i b) k =
    let rest = fill_keeps g s b k in either (i == g) (text s (doc.plug_text g s b)) (gap i (doc.plug_text g s b)) rest rest
fill_keeps g s (element tag attrs inner b) k = (k.0, fill_keeps g s inner k.1, fill_keeps g s b k.2)

close_keeps : (d : Forest) → NoForm d → NoForm (doc.close d)
close_keeps none h = tt
close_keeps (text s d) h = close_keeps d h
close_keeps (gap g d) h = close_keeps d h
close_keeps (element tag attrs inner d) h = (h.0, close_keeps inner h.1, close_keeps d h.2)

-- ---- templates

-- a tag that isn't reserved is no form's
not_reserved : (tag : List ℕ) → is_reserved tag ≡ false → same tag (codes "form") ≡ false
not_reserved tag e = last (same tag (codes "html")) (same tag (codes "head")) (same tag (codes "body")) (same tag (codes "form")) e
  where
    last : (a b c d : Bool) → (a || (b || (c || (d || false)))) ≡ false → d ≡ false
    last false false false false e = refl
    last true b c d e = absurd cc
    last false true c d e = absurd cc
    last false false true d e = absurd cc
    last false false false true e = absurd cc

each_no_form : (d : Forest) → EachElement (λ tag attrs. is_reserved tag ≡ false) d → NoForm d
each_no_form none h = tt
each_no_form (text s d) h = each_no_form d h
each_no_form (gap g d) h = each_no_form d h
each_no_form (element tag attrs inner d) h = (not_reserved tag h.0, each_no_form inner h.1, each_no_form d h.2)

module _ (t : Typed) where
  templates_are : All (λ (x : Template). EachElement (λ tag attrs. is_reserved tag ≡ false) x.items) t.service.templates
  templates_are = (typed t.service (readable_is_woven t.service t.readable) t.well_typed).tags

  items_have_none : (d : Forest) → IsItemsOf t.service d → NoForm d
  items_have_none _ (template x c) =
      each_no_form x.items (subst (λ (y : Template). EachElement (λ tag attrs. is_reserved tag ≡ false) y.items) c.2 (templates_are c.0 x c.1))
  items_have_none _ nothing = tt

  made_has_none : (d : Forest) (m : Measure) → IsMadeOf (IsItemsOf t.service) d m → NoForm d
  made_has_none _ _ (constant d c) = items_have_none d c
  made_has_none _ _ (plug b a m n g h k) = plug_keeps g a b (made_has_none a n k) (made_has_none b m h)
  made_has_none _ _ (fill b m g s u h) = fill_keeps g s b (made_has_none b m h)

-- ---- the form of a page

no_form_in : (d : Forest) → NoForm d → form_in d ≡ None
no_form_in none h = refl
no_form_in (text s d) h = no_form_in d h
no_form_in (gap g d) h = no_form_in d h
no_form_in (element tag attrs inner d) h =
    ap (λ (b : Bool). if b && has (codes "action") attrs then Some (record { tag = tag; attrs = attrs; items = inner })
    else option_or (form_in inner) (form_in d)) h.0
    ∙ (λ i. option_or (no_form_in inner h.1 i) (no_form_in d h.2 i))

pub last_pages_have_no_form : LastPagesHaveNoForm
last_pages_have_no_form t title d h =
    let closed = append_keeps (doc.close d.tree) none (close_keeps d.tree (made_has_none t d.tree d.measure h.document.made)) tt in
    no_form_in (exit_page title d.tree) (refl, (refl, (refl, tt, tt), (refl, closed, tt)), tt)
