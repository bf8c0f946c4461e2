-- A body is read back as what it sends.
use Rattle.std.proofs.Common.{◌≡◌, ℕ, List, [], ◌∷◌, map, refl, ap, sym, ◌∙◌}
use Rattle.std.specs.Prelude.{IsUtf8, All}
use Rattle.std.specs.Str.Lossy.{utf8_lossy}
use Rattle.std.proofs.lemmas.Str.{utf8_lossy-IsUtf8}
use Rattle.std.proofs.lemmas.List.Elements.{All-cons, All-nil}
use Rattle.form_urlencoded.specs.Form.{raw_pairs, decode, parse, extend_pairs}
use Rattle.form_urlencoded.proofs.FormLemmas.{IsBytePair, round_trip}
use Rattle.bw_http.specs.Forms.{decode_pair, form_of}
use Rattle.bw_meaning.specs.States.{Form}
use Rattle.bw_agent.specs.Filled.{body_of}
use Rattle.bw_agent.specs.Laws.{ArePairsOfText}
use Rattle.bw_user.specs.Laws.{BodiesReadBack}
use Rattle.bw_user.proofs.Bytes.{texts_are_bytes}

abbrev Raw : Type 0
Raw = List ℕ × List ℕ

abbrev lossy : Raw → Raw
lossy p = (utf8_lossy p.0, utf8_lossy p.1)

lossy_of : (ps : List Raw) → map decode_pair ps ≡ map lossy (map {B = Raw} (λ (name, value). (decode name, decode value)) ps)
lossy_of [] = refl
lossy_of (p ∷ ps) = ap (λ l. decode_pair p ∷ l) (lossy_of ps)

texts_stay : (ps : Form) → ArePairsOfText ps → map lossy ps ≡ ps
texts_stay [] h = refl
texts_stay (p ∷ ps) h = λ i. (utf8_lossy-IsUtf8 p.0 h.0.0 i, utf8_lossy-IsUtf8 p.1 h.0.1 i) ∷ texts_stay ps h.1 i

are_bytes : (ps : Form) → ArePairsOfText ps → All IsBytePair ps
are_bytes [] h = All-nil IsBytePair
are_bytes (p ∷ ps) h = All-cons IsBytePair p ps (texts_are_bytes p.0 h.0.0, texts_are_bytes p.1 h.0.1) (are_bytes ps h.1)

pub bodies_read_back : BodiesReadBack
bodies_read_back pairs h = lossy_of (raw_pairs (body_of pairs)) ∙ ap (map lossy) (round_trip pairs (are_bytes pairs h)) ∙ texts_stay pairs h
