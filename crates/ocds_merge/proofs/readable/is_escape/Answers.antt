use Rattle.ocds_merge.proofs.PlainLaw.{escape_letter_is, quote_escape, backslash_escape, backspace_escape, form_feed_escape, line_feed_escape, carriage_return_escape, tab_escape}
use Rattle.ocds_merge.proofs.readable.is_escape.Goals as goal

pub returns-in-34 : goal.returns-in-34
returns-in-34 c _ = escape_letter_is 34 c.args.letter 34 quote_escape c.in-34.is

pub returns-in-92 : goal.returns-in-92
returns-in-92 c _ = escape_letter_is 92 c.args.letter 92 backslash_escape c.in-92.is

pub returns-in-98 : goal.returns-in-98
returns-in-98 c _ = escape_letter_is 8 c.args.letter 98 backspace_escape c.in-98.is

pub returns-in-102 : goal.returns-in-102
returns-in-102 c _ = escape_letter_is 12 c.args.letter 102 form_feed_escape c.in-102.is

pub returns-in-110 : goal.returns-in-110
returns-in-110 c _ = escape_letter_is 10 c.args.letter 110 line_feed_escape c.in-110.is

pub returns-in-114 : goal.returns-in-114
returns-in-114 c _ = escape_letter_is 13 c.args.letter 114 carriage_return_escape c.in-114.is

pub returns-in-116 : goal.returns-in-116
returns-in-116 c _ = escape_letter_is 9 c.args.letter 116 tab_escape c.in-116.is
