use Rattle.bw_http.proofs.replies.write_lent.Goals as goal

pub returns-in-Index : goal.returns-in-Index
returns-in-Index g c = rw c.in-Index.is c.write_sheet.ensures

pub returns-in-Page : goal.returns-in-Page
returns-in-Page g c = rw c.in-Page.is c.write_sheet-in-Page.ensures

pub returns-in-Final : goal.returns-in-Final
returns-in-Final g c = rw c.in-Final.is c.write_sheet-in-Final.ensures

pub returns-in-Lacking : goal.returns-in-Lacking
returns-in-Lacking g c = rw c.in-Lacking.is c.write_field.ensures

pub returns-in-Repeated : goal.returns-in-Repeated
returns-in-Repeated g c = rw c.in-Repeated.is c.write_field-in-Repeated.ensures

pub returns-in-FieldTooLong : goal.returns-in-FieldTooLong
returns-in-FieldTooLong g c = rw c.in-FieldTooLong.is c.write_field-in-FieldTooLong.ensures

pub returns-in-Format : goal.returns-in-Format
returns-in-Format g c = rw c.in-Format.is c.write_field-in-Format.ensures

pub returns-in-Method : goal.returns-in-Method
returns-in-Method g c = rw c.in-Method.is c.write_allowed.ensures

pub returns-in-Stale : goal.returns-in-Stale
returns-in-Stale g c = rw c.in-Stale.is c.write_stale.ensures

pub returns-in-Failed : goal.returns-in-Failed
returns-in-Failed g c = rw c.in-Failed.is c.write_failed.ensures

pub returns-in-Bad : goal.returns-in-Bad
returns-in-Bad g c = rw c.in-Bad.is c.write_words.ensures

pub returns-in-NoSuch : goal.returns-in-NoSuch
returns-in-NoSuch g c = rw c.in-NoSuch.is c.write_words-in-NoSuch.ensures

pub returns-in-LengthRequired : goal.returns-in-LengthRequired
returns-in-LengthRequired g c = rw c.in-LengthRequired.is c.write_words-in-LengthRequired.ensures

pub returns-in-BodyTooLong : goal.returns-in-BodyTooLong
returns-in-BodyTooLong g c = rw c.in-BodyTooLong.is c.write_words-in-BodyTooLong.ensures

pub returns-in-Media : goal.returns-in-Media
returns-in-Media g c = rw c.in-Media.is c.write_words-in-Media.ensures

pub returns-in-HeadTooLong : goal.returns-in-HeadTooLong
returns-in-HeadTooLong g c = rw c.in-HeadTooLong.is c.write_words-in-HeadTooLong.ensures

pub returns-in-NoNumbers : goal.returns-in-NoNumbers
returns-in-NoNumbers g c = rw c.in-NoNumbers.is c.write_words-in-NoNumbers.ensures

pub returns-in-NoTurns : goal.returns-in-NoTurns
returns-in-NoTurns g c = rw c.in-NoTurns.is c.write_words-in-NoTurns.ensures

pub returns-in-Memory : goal.returns-in-Memory
returns-in-Memory g c = rw c.in-Memory.is c.write_words-in-Memory.ensures
