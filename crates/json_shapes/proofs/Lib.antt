mod Parsed
