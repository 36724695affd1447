-- The program's cookie, as the cookie of the definitions.
use Rattle.py_plain_text.specs.declared.text_cookie.TextIOCookie.{TextIOCookie}
use Rattle.py_plain_text.specs.Cookie.{Cookie}

-- the cookie that the program's stands for
abbrev pub cookie_shown : TextIOCookie → Cookie
cookie_shown cookie = record {
  start_pos = cookie.start_pos;
  dec_flags = cookie.dec_flags;
  bytes_to_feed = cookie.bytes_to_feed;
  chars_to_skip = cookie.chars_to_skip;
  need_eof = cookie.need_eof;
  bytes_to_skip = cookie.bytes_to_skip;
}
